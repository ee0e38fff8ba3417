-- Events with other numbers, one after another.
use Rattle.std.proofs.Common.{◌≡◌, ◌++◌, ℕ, ◌+◌, ◌<◌, List, set, get_or, length, map, take, drop, ap, ◌∙◌, arith}
use Rattle.std.proofs.lemmas.List.Edits.{map_over_more}
use Rattle.geo_conditions.proofs.Defaults.{any_default}
use Rattle.derivation.specs.declared.event.Event.{Event}
use Rattle.derivation.specs.declared.renumbering.Renumbering.{Renumbering}
use Rattle.derivation.specs.Renumbered.{renumbered}

-- one more of a list
pub renumbers_more : (r : Renumbering) (xs ys : List Event) (i : ℕ) (d e : Event) → i < length xs → length ys ≡ length xs → ys ≡ map (renumbered r) (take i xs) ++ drop i xs → e ≡ renumbered r (get_or ys i d)
    → set ys i e ≡ map (renumbered r) (take (i + 1) xs) ++ drop (i + 1) xs
renumbers_more r xs ys i d e inside long h is =
    let x : Event = get_or ys i d in
    ap (set ys i) is ∙ map_over_more (renumbered r) xs ys i x inside h (any_default ys i d x (omega (arith, inside, long)))
