-- The table of attributes: which names it has.
use Rattle.std.proofs.Common.{◌≡◌, ℕ, ◌+◌, ◌<◌, ◌≤◌, Bool, true, false, ◌||◌, List, [], ◌∷◌, length, take, map, get_or, refl, sym, ap, ◌∙◌}
use Rattle.std.specs.List.{list_any}
use Rattle.std.specs.Str.{bytes_eq}
use Rattle.std.proofs.lemmas.List.{take_more, take_all}
use Rattle.std.proofs.lemmas.List.Folds.{list_any-append}
use Rattle.problem_data.specs.declared.problem.AttributeDef.{AttributeDef}
use Rattle.problem_data.specs.ProblemView.{attribute_data}

or-none : (b : Bool) → (b || false) ≡ b
or-none true = refl
or-none false = refl

or-assoc : (a b c : Bool) → ((a || b) || c) ≡ (a || (b || c))
or-assoc true b c = refl
or-assoc false b c = refl

pub any-push : {X : Type 0} (test : X → Bool) (xs : List X) (i : ℕ) (x : X) → i < length xs → x ≡ get_or xs i x → list_any test (take (i + 1) xs) ≡ (list_any test (take i xs) || test x)
any-push test xs i x h e =
    ap (list_any test) (take_more xs i x h) ∙ list_any-append test (take i xs) (get_or xs i x ∷ []) ∙ ap (λ b. list_any test (take i xs) || b) (or-none (test (get_or xs i x)) ∙ ap test (sym e))

-- one more in a table of what `before` has and the first i of a list
pub any-step : {X : Type 0} (test : X → Bool) (xs : List X) (i : ℕ) (x : X) (before now more here : Bool) → i < length xs → x ≡ get_or xs i x → now ≡ (before || list_any test (take i xs)) → here ≡ test x → more ≡ (now || here) →
    more ≡ (before || list_any test (take (i + 1) xs))
any-step test xs i x before now more here h e k f g =
    g ∙ ap (λ b. b || here) k ∙ or-assoc before (list_any test (take i xs)) here ∙ ap (λ b. before || (list_any test (take i xs) || b)) f ∙ ap (λ b. before || b) (sym (any-push test xs i x h e))

pub any-all : {X : Type 0} (test : X → Bool) (xs : List X) (i : ℕ) (now before : Bool) → length xs ≤ i → now ≡ (before || list_any test (take i xs)) → now ≡ (before || list_any test xs)
any-all test xs i now before h k = k ∙ ap (λ ys. before || list_any test ys) (take_all i xs h)

pub any-attributes : (n : List ℕ) (xs : List AttributeDef) → list_any (λ a. bytes_eq n a.name) (map attribute_data xs) ≡ list_any (λ a. bytes_eq n a.name) xs
any-attributes n [] = refl
any-attributes n (x ∷ xs) = ap (λ b. bytes_eq n x.name || b) (any-attributes n xs)
