-- Looking up an attribute in a list.
use Rattle.std.proofs.Common.{◌≡◌, ℕ, ◌+◌, ◌<◌, ◌≤◌, true, false, cond, List, length, drop, map, get_or, ℤ, pos, sym, ap, ◌∙◌}
use Rattle.std.specs.Str.{bytes_eq}
use Rattle.std.proofs.lemmas.List.{drop_more, drop_all}
use Rattle.problem_data.specs.declared.problem.AttributeDef.{AttributeDef}
use Rattle.problem_data.specs.ProblemView.{attribute_data}
use Rattle.problem_data.specs.Value.{attribute_in}

attribute-at : (n : List ℕ) (xs : List AttributeDef) (i : ℕ) (a : AttributeDef) → i < length xs → a ≡ get_or xs i a →
    attribute_in n (map attribute_data (drop i xs)) ≡ cond (bytes_eq n a.name) a.value (attribute_in n (map attribute_data (drop (i + 1) xs)))
attribute-at n xs i a h e =
    ap (λ l. attribute_in n (map attribute_data l)) (drop_more xs i a h)
    ∙ ap (λ (x : AttributeDef). cond (bytes_eq n x.name) x.value (attribute_in n (map attribute_data (drop (i + 1) xs)))) (sym e)

pub attribute-skip : (n : List ℕ) (xs : List AttributeDef) (i : ℕ) (a : AttributeDef) (total : ℤ) → i < length xs → a ≡ get_or xs i a → bytes_eq n a.name ≡ false →
    attribute_in n (map attribute_data (drop i xs)) ≡ total → attribute_in n (map attribute_data (drop (i + 1) xs)) ≡ total
attribute-skip n xs i a total h e f inv =
    sym (attribute-at n xs i a h e ∙ ap (λ b. cond b a.value (attribute_in n (map attribute_data (drop (i + 1) xs)))) f) ∙ inv

pub attribute-take : (n : List ℕ) (xs : List AttributeDef) (i : ℕ) (a : AttributeDef) (total : ℤ) → i < length xs → a ≡ get_or xs i a → bytes_eq n a.name ≡ true →
    attribute_in n (map attribute_data (drop i xs)) ≡ total → a.value ≡ total
attribute-take n xs i a total h e f inv =
    sym (attribute-at n xs i a h e ∙ ap (λ b. cond b a.value (attribute_in n (map attribute_data (drop (i + 1) xs)))) f) ∙ inv

pub attribute-end : (n : List ℕ) (xs : List AttributeDef) (i : ℕ) (total : ℤ) → length xs ≤ i → attribute_in n (map attribute_data (drop i xs)) ≡ total → pos 0 ≡ total
attribute-end n xs i total h inv = ap (λ l. attribute_in n (map attribute_data l)) (sym (drop_all i xs h)) ∙ inv
