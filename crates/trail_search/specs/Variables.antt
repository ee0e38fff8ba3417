-- The variables of the code.
use Rattle.std.specs.Prelude.{◌≡◌, ◌<◌, ℕ, List, length, slice_index_or, Option, None, Some, ℤ, pos, negsuc, true, false}
use Rattle.derivation.specs.declared.event.Event.{Event}
use Rattle.derivation.specs.declared.side.Side.TheVariants.{Upto, From}
use Rattle.derivation.specs.declared.half.Half.{Half}
use Rattle.derivation.specs.declared.half.Half.TheVariants.{OfPlace, OfSide}
use Rattle.derivation.specs.Nodes.{split_event}
use Rattle.geo_conditions.specs.Walk.{Variable as Seen, PlaceOf, CoordinateOf, object_of}
use Rattle.trail_search.specs.declared.variable.Variable.{Variable}
use Rattle.trail_search.specs.declared.variable.Variable.TheVariants.{Place, Coordinate}

-- the variable that a variable of the code stands for
abbrev pub variable_of : Variable → Seen
variable_of (Place o) = PlaceOf o.0
variable_of (Coordinate o d down) = CoordinateOf o.0 d down

-- the two cases of a variable: it has the value v, or one that comes after it
abbrev pub half_of : Seen → ℤ → Half
half_of (PlaceOf o) (pos s) = OfPlace s
half_of (PlaceOf o) (negsuc n) = OfPlace 0
half_of (CoordinateOf o d false) v = OfSide (Upto d v)
half_of (CoordinateOf o d true) v = OfSide (From d v)

-- their event
abbrev pub split_of : Seen → ℤ → Event
split_of x v = split_event (object_of x) (half_of x v)

-- the variable is the place of the object o, or its coordinate in that dimension
abbrev pub IsAt : ℕ → Option ℕ → Seen → Type 0
IsAt o None (PlaceOf u) = u ≡ o
IsAt o None (CoordinateOf u e down) = ⊥
IsAt o (Some d) (PlaceOf u) = ⊥
IsAt o (Some d) (CoordinateOf u e down) = (u ≡ o) × (e ≡ d)

-- one of the variables is such a one
abbrev pub HasOne : (Seen → Type 0) → List Seen → Type 0
HasOne P xs = (i : ℕ) × (i < length xs) × ((x : Seen) → P (slice_index_or xs i x))
