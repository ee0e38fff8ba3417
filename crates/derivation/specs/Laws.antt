-- The laws of covers, as statements.
use Rattle.std.specs.Prelude.{◌≡◌, ◌≢◌, true, ℕ, ◌<◌, List, length}
use Rattle.geo_conditions.specs.declared.cond.Cond.{Cond}
use Rattle.geo_conditions.specs.Reach.{State, Region, has, Inside}
use Rattle.derivation.specs.Covers.{CoverTree, covers}
use Rattle.derivation.specs.PlaceCovers.{SmallerBox}

-- A cover of a box of an object covers each smaller box of it, on each state inside that one in which each other object has a place.
abbrev pub CoversStay : Type 0
CoversStay = (cs : List Cond) (S T : State) (o s : ℕ) (t : CoverTree) (c b : Region) → Inside T S → ((p : ℕ) → p < length T → p ≢ o → (q : ℕ) × (has T p q ≡ true))
    → SmallerBox c b → covers cs S o s b t ≡ true → covers cs T o s c t ≡ true
