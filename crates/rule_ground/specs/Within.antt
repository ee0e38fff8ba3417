-- The conditions of the rule that all cells lie in given ranges: two for each dimension of each box that an object may have.
use Rattle.std.specs.Prelude.{ℕ, pos, negsuc, ◌+ℤ◌, ◌-ℤ◌, if◌then◌else◌, List, [], ◌∷◌, length}
use Rattle.std.specs.List.{range_with_len, flat_map}
use Rattle.geo_base.specs.Boxes.{coordinate}
use Rattle.problem_data.specs.Problem.{BoxData, RangeData, ProblemData}
use Rattle.problem_data.specs.Cells.{range_at}
use Rattle.linear_conditions.specs.CondTree.{CondTree, linear, shape_is_not, at_least, conds}
use Rattle.rule_ground.specs.Shapes.{places, has_several, term}
use Rattle.rule_values.specs.Shapes.{boxes_at}

-- the object o has another shape than the one at the place s, or the condition holds
abbrev pub unless_other : ProblemData → ℕ → ℕ → CondTree → CondTree
unless_other p o s c = if has_several p o then at_least (pos 1) (conds (shape_is_not o s ∷ (c ∷ []))) else c

-- the box b of the object o begins at the low end of the range or behind it
abbrev pub from_low : ℕ → BoxData → List RangeData → ℕ → CondTree
from_low o b ranges d = linear (record { terms = term o d (negsuc 0) ∷ []; constant = (range_at ranges d).low -ℤ coordinate b.offsets d })

-- its last number is at most the high end
abbrev pub to_high : ℕ → BoxData → List RangeData → ℕ → CondTree
to_high o b ranges d = linear (record { terms = term o d (pos 1) ∷ []; constant = ((coordinate b.offsets d +ℤ coordinate b.sizes d) -ℤ pos 1) -ℤ (range_at ranges d).high })

-- in the dimension d
abbrev pub within_in : ProblemData → List RangeData → ℕ → ℕ → BoxData → ℕ → List CondTree
within_in p ranges o s b d = unless_other p o s (from_low o b ranges d) ∷ (unless_other p o s (to_high o b ranges d) ∷ [])

abbrev pub within_of_box : ProblemData → List RangeData → ℕ → ℕ → BoxData → List CondTree
within_of_box p ranges o s b = flat_map (within_in p ranges o s b) (range_with_len 0 p.dims)

abbrev pub within_at_place : ProblemData → List RangeData → ℕ → ℕ → List CondTree
within_at_place p ranges o s = flat_map (within_of_box p ranges o s) (boxes_at p o s)

abbrev pub within_of : ProblemData → List RangeData → ℕ → List CondTree
within_of p ranges o = flat_map (within_at_place p ranges o) (places p o)

-- for each object, its shapes and their boxes
abbrev pub within_conditions : ProblemData → List RangeData → List CondTree
within_conditions p ranges = flat_map (within_of p ranges) (range_with_len 0 (length p.objects))
