-- Cuts of a box. A cut is an intersection: it never widens.
use Rattle.std.specs.Int.{int_min, int_max}
use Rattle.std.specs.Prelude.{int_lt, ◌||◌, Bool, false, List, [], ◌∷◌, slice_set, ℕ, ℤ, pos, negsuc, ◌+ℤ◌}
use Rattle.derivation.specs.declared.side.Side.{Side}
use Rattle.derivation.specs.declared.side.Side.TheVariants.{Upto, From}
use Rattle.geo_base.specs.Boxes.{coordinate}
use Rattle.geo_conditions.specs.Reach.{Region}

-- the part of the box up to v in the dimension d, and the part from v on
abbrev pub part_upto : Region → ℕ → ℤ → Region
part_upto b d v = record { lo = b.lo; hi = slice_set b.hi d (int_min (coordinate b.hi d) v) }

abbrev pub part_from : Region → ℕ → ℤ → Region
part_from b d v = record { lo = slice_set b.lo d (int_max (coordinate b.lo d) v); hi = b.hi }

-- the part of the box on that side, and the rest
abbrev pub near : Side → Region → Region
near (Upto d v) b = part_upto b d v
near (From d v) b = part_from b d v

abbrev pub far : Side → Region → Region
far (Upto d v) b = part_from b d (v +ℤ pos 1)
far (From d v) b = part_upto b d (v +ℤ negsuc 0)

-- some interval between the ends is empty
abbrev pub empty_between : List ℤ → List ℤ → Bool
empty_between [] hs = false
empty_between (l ∷ ls) [] = false
empty_between (l ∷ ls) (h ∷ hs) = int_lt h l || empty_between ls hs

-- some interval of the box is empty
abbrev pub is_empty : Region → Bool
is_empty b = empty_between b.lo b.hi
