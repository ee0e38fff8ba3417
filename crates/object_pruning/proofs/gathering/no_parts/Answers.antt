use Rattle.std.specs.Prelude.{slice_get}
use Rattle.std.proofs.Common.{◌≡◌, ℕ, zero, suc, List, [], ◌∷◌, Option, None, Some}
use Rattle.std.proofs.lemmas.Option.{none-some, same_Some}
use Rattle.object_pruning.proofs.gathering.no_parts.Goals as goal

-- none, so often
abbrev nones : {X : Type 0} → ℕ → List (Option X)
nones zero = []
nones (suc n) = None ∷ nones n

no_some : {X : Type 0} (n j : ℕ) (y : X) → slice_get (nones n) j ≡ Some (Some y) → ⊥
no_some zero j y h = none-some (Some y) h
no_some (suc n) zero y h = none-some y (same_Some _ _ h)
no_some (suc n) (suc j) y h = no_some n j y h

pub returns : goal.returns
returns g c = no_some 32
