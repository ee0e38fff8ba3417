-- The conditions of the rule that no cell belongs to two objects: one for each two boxes that two objects may have.
use Rattle.std.specs.Prelude.{ℕ, ◌+◌, ◌-◌, pos, negsuc, ◌+ℤ◌, ◌-ℤ◌, List, [], ◌∷◌, ◌++◌, map, length}
use Rattle.std.specs.List.{range_with_len, flat_map}
use Rattle.geo_base.specs.Boxes.{coordinate}
use Rattle.problem_data.specs.Problem.{BoxData, ProblemData}
use Rattle.linear_conditions.specs.CondTree.{CondTree, linear, at_least, conds}
use Rattle.rule_ground.specs.Shapes.{places, other_shape, term}
use Rattle.rule_values.specs.Shapes.{boxes_at}

-- in the dimension d the box a of the object i ends before the box b of the object j begins; and the other way round
abbrev pub parted_in : ℕ → BoxData → ℕ → BoxData → ℕ → List CondTree
parted_in i a j b d =
    linear (record { terms = term i d (pos 1) ∷ (term j d (negsuc 0) ∷ []); constant = (coordinate a.offsets d +ℤ coordinate a.sizes d) -ℤ coordinate b.offsets d })
    ∷ (linear (record { terms = term i d (negsuc 0) ∷ (term j d (pos 1) ∷ []); constant = (coordinate b.offsets d +ℤ coordinate b.sizes d) -ℤ coordinate a.offsets d }) ∷ [])

-- one of the two objects has another shape, or the boxes are parted in some dimension
abbrev pub apart_condition : ProblemData → ℕ → ℕ → ℕ → ℕ → BoxData → BoxData → CondTree
apart_condition p i s j u a b = at_least (pos 1) (conds (other_shape p i s ++ other_shape p j u ++ flat_map (parted_in i a j b) (range_with_len 0 p.dims)))

-- for the box a of the object i, which has its shape at the place s, and each box of the object j
abbrev pub apart_from_box : ProblemData → ℕ → ℕ → ℕ → ℕ → BoxData → List CondTree
apart_from_box p i s j u a = map (apart_condition p i s j u a) (boxes_at p j u)

abbrev pub apart_at_places : ProblemData → ℕ → ℕ → ℕ → ℕ → List CondTree
apart_at_places p i s j u = flat_map (apart_from_box p i s j u) (boxes_at p i s)

abbrev pub apart_at_place : ProblemData → ℕ → ℕ → ℕ → List CondTree
apart_at_place p i j s = flat_map (apart_at_places p i s j) (places p j)

abbrev pub apart_of : ProblemData → ℕ → ℕ → List CondTree
apart_of p i j = flat_map (apart_at_place p i j) (places p i)

-- for the object i and each object behind it
abbrev pub apart_behind : ProblemData → ℕ → List CondTree
apart_behind p i = flat_map (apart_of p i) (range_with_len (i + 1) (length p.objects - (i + 1)))

-- for each two objects, their shapes and their boxes
abbrev pub apart_conditions : ProblemData → List CondTree
apart_conditions p = flat_map (apart_behind p) (range_with_len 0 (length p.objects))
