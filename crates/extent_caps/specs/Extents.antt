-- Where placed objects end in one dimension, and the conditions that they end by a number.
use Rattle.std.specs.Prelude.{◌≡◌, ◌<◌, ◌+ℤ◌, ◌-ℤ◌, ◌≤ℤ◌, ℕ, ℤ, pos, List, [], ◌∷◌, length, map, Option, None, Some}
use Rattle.std.specs.List.{range_with_len, flat_map}
use Rattle.std.specs.Int.{int_max}
use Rattle.geo_base.specs.Boxes.{coordinate}
use Rattle.problem_data.specs.Problem.{BoxData, ProblemData}
use Rattle.problem_data.specs.Tuple.{Tuple, spot, boxes_in}
use Rattle.problem_data.specs.Cells.{box_at}
use Rattle.linear_conditions.specs.CondTree.{CondTree, linear}
use Rattle.rule_values.specs.Shapes.{boxes_at}
use Rattle.rule_ground.specs.Shapes.{places, term}
use Rattle.rule_ground.specs.Within.{unless_other}

-- the first number past the box, seen from the origin
abbrev pub box_end : BoxData → List ℤ → ℕ → ℤ
box_end b origin d = (coordinate origin d +ℤ coordinate b.offsets d) +ℤ coordinate b.sizes d

-- a box of the object o ends there, where the tuple puts it
abbrev pub IsBoxEndOf : ProblemData → Tuple → ℕ → ℕ → ℤ → Type 0
IsBoxEndOf p t d o v = (n : ℕ) × (n < length (boxes_in p t o)) × (v ≡ box_end (box_at (boxes_in p t o) n) (spot t o).origin d)

-- a box of some object ends there in the dimension d
abbrev pub IsBoxEnd : ProblemData → Tuple → ℕ → ℤ → Type 0
IsBoxEnd p t d v = (o : ℕ) × (o < length p.objects) × IsBoxEndOf p t d o v

-- the greatest of the numbers that are so; none, where none is
abbrev pub IsGreatestOf : (ℤ → Type 0) → Option ℤ → Type 0
IsGreatestOf P None = (v : ℤ) → P v → ⊥
IsGreatestOf P (Some e) = P e × ((v : ℤ) → P v → v ≤ℤ e)

-- the greater of two numbers, where there are two
abbrev pub later : Option ℤ → Option ℤ → Option ℤ
later None b = b
later (Some x) None = Some x
later (Some x) (Some y) = Some (int_max x y)

-- where the tuple ends: the greatest end of its boxes; none, where it has no box
abbrev pub IsEnd : ProblemData → Tuple → ℕ → Option ℤ → Type 0
IsEnd p t d e = IsGreatestOf (IsBoxEnd p t d) e

-- no box ends beyond e
abbrev pub EndsBy : ProblemData → Tuple → ℕ → ℤ → Type 0
EndsBy p t d e = (v : ℤ) → IsBoxEnd p t d v → v ≤ℤ e

-- the box b of the object o ends by e
abbrev pub ends_by : ℕ → ℤ → ℕ → BoxData → CondTree
ends_by d e o b = linear (record { terms = term o d (pos 1) ∷ []; constant = (coordinate b.offsets d +ℤ coordinate b.sizes d) -ℤ e })

-- that, or the object has another place than s
abbrev pub cap : ProblemData → ℕ → ℤ → ℕ → ℕ → BoxData → CondTree
cap p d e o s b = unless_other p o s (ends_by d e o b)

-- those of the boxes of an object at the place s
abbrev pub caps_at : ProblemData → ℕ → ℤ → ℕ → ℕ → List CondTree
caps_at p d e o s = map (cap p d e o s) (boxes_at p o s)

abbrev pub caps_of : ProblemData → ℕ → ℤ → ℕ → List CondTree
caps_of p d e o = flat_map (caps_at p d e o) (places p o)

-- for each object in file order, its places and their boxes
abbrev pub caps : ProblemData → ℕ → ℤ → List CondTree
caps p d e = flat_map (caps_of p d e) (range_with_len 0 (length p.objects))
