-- A loop over the names in `objects ( )`.
use Rattle.std.proofs.Common.{◌≡◌, ℕ, ◌+◌, ◌<◌, ◌≤◌, Bool, true, false, List, [], ◌∷◌, ◌++◌, length, take, drop, map, get_or, Option, None, refl, sym, ap, ◌∙◌}
use Rattle.std.specs.Prelude.{not, is_some}
use Rattle.std.specs.List.{list_any}
use Rattle.std.specs.Str.{bytes_eq}
use Rattle.std.proofs.lemmas.List.{drop_more, drop_all, take_more, map-append}
use Rattle.rule_syntax.specs.declared.tree.PlacedName.{PlacedName}
use Rattle.problem_data.specs.Problem.{ProblemData}
use Rattle.problem_data.specs.Value.{object_position}
use Rattle.problem_data.specs.Seen.{met, meet}
use Rattle.problem_data.proofs.MetNames.{met_any, met_push}
use Rattle.rule_names.specs.declared.mistake.Mistake.{Mistake}
use Rattle.rule_names.specs.declared.mistake.Flaw.TheVariants.{UnknownName, RepeatedName}
use Rattle.rule_names.specs.Mistakes.{earlier, first_of, mistake_if}
use Rattle.rule_names.specs.Names.{listed_mistakes}
use Rattle.rule_names.proofs.Firsts.{earlier_none, earlier_assoc, first_append}

abbrev pub text_of : PlacedName → List ℕ
text_of a = a.name

-- the names so far were met, and what is found so far comes before what the rest has
pub record ListedSoFar (p : ProblemData) (names : List PlacedName) (i : ℕ) (seen : List (List ℕ)) (found : Option Mistake) : Type 0 where
  pub seen_names : seen ≡ met (map text_of (take i names))
  pub first : earlier found (first_of (listed_mistakes p (map text_of (take i names)) (drop i names))) ≡ first_of (listed_mistakes p [] names)

pub listed-init : (p : ProblemData) (names : List PlacedName) (seen : List (List ℕ)) → seen ≡ [] → ListedSoFar p names 0 seen None
listed-init p names seen e = record { seen_names = e; first = refl }

twice : (b : Bool) → not (not b) ≡ b
twice true = refl
twice false = refl

pub listed-step : (p : ProblemData) (names : List PlacedName) (i : ℕ) (a : PlacedName) (seen seen' : List (List ℕ)) (bytes : List ℕ) (is_new : Bool) (found here o : Option Mistake) → i < length names → a ≡ get_or names i a → ListedSoFar p names i seen found →
    bytes ≡ a.name → seen' ≡ meet seen bytes → is_new ≡ not (list_any (bytes_eq bytes) seen) →
    here ≡ first_of (mistake_if (not (is_some (object_position p a.name))) a.place UnknownName ++ mistake_if (not is_new) a.place RepeatedName) → o ≡ earlier found here → ListedSoFar p names (i + 1) seen' o
listed-step p names i a seen seen' bytes is_new found here o lt e k b s t h j =
    let before : List (List ℕ) = map text_of (take i names) in
    let front : map text_of (take (i + 1) names) ≡ before ++ a.name ∷ [] =
    ap (map text_of) (take_more names i a lt ∙ ap (λ (x : PlacedName). take i names ++ x ∷ []) (sym e)) ∙ map-append text_of (take i names) (a ∷ []) in
    let rest : List Mistake = listed_mistakes p (map text_of (take (i + 1) names)) (drop (i + 1) names) in
    let none : List Mistake = mistake_if (not (is_some (object_position p a.name))) a.place UnknownName in
    let again : List Mistake = mistake_if (list_any (bytes_eq a.name) before) a.place RepeatedName in
    let old : not is_new ≡ list_any (bytes_eq a.name) before =
    ap not t ∙ twice (list_any (bytes_eq bytes) seen) ∙ ap (λ (x : List ℕ). list_any (bytes_eq x) seen) b ∙ ap (list_any (bytes_eq a.name)) k.seen_names ∙ met_any a.name before in
    let all : listed_mistakes p before (drop i names) ≡ none ++ again ++ rest =
    ap (listed_mistakes p before) (drop_more names i a lt ∙ ap (λ (x : PlacedName). x ∷ drop (i + 1) names) (sym e))
    ∙ ap (λ (xs : List (List ℕ)). none ++ again ++ listed_mistakes p xs (drop (i + 1) names)) (sym front) in
    let both : here ≡ first_of (none ++ again) = h ∙ ap (λ (x : Bool). first_of (none ++ mistake_if x a.place RepeatedName)) old in
    let z : first_of (listed_mistakes p before (drop i names)) ≡ earlier here (first_of rest) =
    ap first_of all ∙ first_append (none ++ again) rest ∙ ap (λ (x : Option Mistake). earlier x (first_of rest)) (sym both) in
    record {
      seen_names = s ∙ ap (λ (x : List ℕ). meet seen x) b ∙ ap (λ (xs : List (List ℕ)). meet xs a.name) k.seen_names ∙ sym (met_push before a.name) ∙ ap met (sym front);
      first = ap (λ (x : Option Mistake). earlier x (first_of rest)) j ∙ earlier_assoc found here (first_of rest) ∙ ap (earlier found) (sym z) ∙ k.first;
    }

pub listed-end : (p : ProblemData) (names : List PlacedName) (i : ℕ) (seen : List (List ℕ)) (found : Option Mistake) → length names ≤ i → ListedSoFar p names i seen found → found ≡ first_of (listed_mistakes p [] names)
listed-end p names i seen found h k =
    sym (earlier_none found) ∙ ap (λ (xs : List PlacedName). earlier found (first_of (listed_mistakes p (map text_of (take i names)) xs))) (sym (drop_all i names h)) ∙ k.first
