use Rattle.std.proofs.Common.{◌≡◌, ◌<◌, ◌+◌, ◌++◌, ◌∷◌, [], ℕ, ℤ, List, map, take, length, get_or, pos, sym, ap, ◌∙◌, rules}
use Rattle.std.proofs.lemmas.List.{map-append, take_more}
use Rattle.problem_data.specs.declared.tree.Int.{Int}
use Rattle.problem_data.specs.Meaning.{number_of}
use Rattle.problem_syntax.proofs.numbers.values.Goals as goal

-- one value more
pushed : (xs : List Int) (i : ℕ) (d : Int) (v : ℤ) (now later : List ℤ) → i < length xs → later ≡ now ++ v ∷ [] → v ≡ number_of (get_or xs i d) → now ≡ map number_of (take i xs) → later ≡ map number_of (take (i + 1) xs)
pushed xs i d v now later h is e k =
    is ∙ ap (λ w. now ++ w ∷ []) e ∙ ap (λ l. l ++ number_of (get_or xs i d) ∷ []) k ∙ sym (map-append number_of (take i xs) (get_or xs i d ∷ [])) ∙ sym (ap (map number_of) (take_more xs i d h))

pub loop-number-preserved : goal.loop-number-preserved
loop-number-preserved c = pushed c.args.numbers.now c.loop-number.number-index (record { place = 0; value = pos 0 }) _ _ _ c.loop-number-test.true c.in_ok-push.ensures.items (search rules) c.loop-number.invariant
