-- What a search over the points of a box finds.
use Rattle.std.specs.Prelude.{◌≡◌, ℕ, ◌<◌, List, ℤ, slice_set}
use Rattle.geo_conditions.specs.declared.cond.Cond.{Cond}
use Rattle.geo_conditions.specs.Reach.{State, Region, InBox, with_at, just}
use Rattle.geo_base.specs.Boxes.{coordinate}
use Rattle.geo_state.specs.Trail.{IsSmallEnd}
use Rattle.geo_conditions.specs.Supported.{NoneRefuted, Supports}

-- the points agree in the dimensions below d
abbrev pub AgreeBelow : ℕ → List ℤ → List ℤ → Type 0
AgreeBelow d p q = (j : ℕ) → j < d → coordinate p j ≡ coordinate q j

-- the box has a point that agrees with p below d, and at which no condition is refuted for the object at that place
abbrev pub HasPoint : List Cond → State → ℕ → ℕ → Region → List ℤ → ℕ → Type 0
HasPoint cs S o s b p d = (q : List ℤ) × InBox q b × AgreeBelow d p q × NoneRefuted cs (with_at S o s (just q))

-- the place has a point
abbrev pub HasSupport : List Cond → State → ℕ → ℕ → Type 0
HasSupport cs S o s = (p : List ℤ) × Supports cs S o s p

-- the end has a point, at some place
abbrev pub HasEnd : List Cond → State → ℕ → ℕ → ℤ → Type 0
HasEnd cs S o d v = (s : ℕ) × (p : List ℤ) × Supports cs S o s p × (coordinate p d ≡ v)

-- each end of the box is a small number
abbrev pub IsSmallRegion : Region → Type 0
IsSmallRegion b = (d : ℕ) → IsSmallEnd (coordinate b.lo d) × IsSmallEnd (coordinate b.hi d)

-- the part of the box that has one number in a dimension
abbrev pub cut_to : Region → ℕ → ℤ → Region
cut_to b d v = record { lo = slice_set b.lo d v; hi = slice_set b.hi d v }
