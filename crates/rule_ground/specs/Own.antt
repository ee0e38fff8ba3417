-- The conditions that objects have by themselves: that no coordinate lies between two pieces of its
-- range, and that an absent object lies at the first value of each dimension.
use Rattle.std.specs.Prelude.{ℕ, ◌+◌, ◌-◌, ℤ, pos, negsuc, ◌-ℤ◌, if◌then◌else◌, List, [], ◌∷◌, ◌++◌, map, length}
use Rattle.std.specs.List.{range_with_len, flat_map}
use Rattle.problem_data.specs.Problem.{RangeData, ProblemData, runs_down}
use Rattle.problem_data.specs.Pieces.{range_at, pieces_at}
use Rattle.problem_data.specs.Places.{absent_place, side_at, first_value}
use Rattle.problem_data.specs.Tuple.{object_of}
use Rattle.linear_conditions.specs.CondTree.{CondTree, linear, shape_is_not, at_least, conds}
use Rattle.rule_ground.specs.Shapes.{term}

-- the coordinate d of the object o is at most v
abbrev pub up_to : ℕ → ℕ → ℤ → CondTree
up_to o d v = linear (record { terms = term o d (pos 1) ∷ []; constant = pos 0 -ℤ v })

-- it is at least v
abbrev pub from : ℕ → ℕ → ℤ → CondTree
from o d v = linear (record { terms = term o d (negsuc 0) ∷ []; constant = v })

-- it is at most the end of one piece, or at least the beginning of the other
abbrev pub hole_condition : ℕ → ℕ → RangeData → RangeData → CondTree
hole_condition o d r s = at_least (pos 1) (conds (up_to o d r.high ∷ (from o d s.low ∷ [])))

-- for the piece n and the one behind it
abbrev pub hole_behind : ℕ → ℕ → List RangeData → ℕ → CondTree
hole_behind o d pieces n = hole_condition o d (range_at pieces n) (range_at pieces (n + 1))

-- for each two neighbouring pieces
abbrev pub holes_in : ℕ → ℕ → List RangeData → List CondTree
holes_in o d pieces = map (hole_behind o d pieces) (range_with_len 0 (length pieces - 1))

abbrev pub holes_at : ProblemData → ℕ → ℕ → List CondTree
holes_at p o d = holes_in o d (pieces_at (object_of p o) d)

-- the coordinate is not behind its first value
abbrev pub at_first : ProblemData → ℕ → ℕ → CondTree
at_first p o d =
    if runs_down (side_at p d) then from o d (first_value p (object_of p o) d)
    else up_to o d (first_value p (object_of p o) d)

-- the object is not absent, or that is so
abbrev pub origin_condition : ProblemData → ℕ → ℕ → CondTree
origin_condition p o d =
    at_least (pos 1) (conds (shape_is_not o (absent_place (object_of p o)) ∷ (at_first p o d ∷ [])))

-- of an object that may be absent, for each dimension
abbrev pub origins_of : ProblemData → ℕ → List CondTree
origins_of p o =
    if (object_of p o).may_be_absent then map (origin_condition p o) (range_with_len 0 p.dims) else []

-- the holes of each dimension, and then the origin
abbrev pub own_of : ProblemData → ℕ → List CondTree
own_of p o = flat_map (holes_at p o) (range_with_len 0 p.dims) ++ origins_of p o

-- for each object in file order
abbrev pub own_conditions : ProblemData → List CondTree
own_conditions p = flat_map (own_of p) (range_with_len 0 (length p.objects))
