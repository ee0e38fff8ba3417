-- The problem that is made from a seed.
use Rattle.std.specs.Prelude.{ℕ, false, pos, ◌-◌, ◌*◌, List, [], ◌∷◌, ◌++◌, codes, decimal, map, flat_map}
use Rattle.std.specs.List.{range_with_len}
use Rattle.problem_data.specs.declared.tree.Side.TheVariants.{Low}
use Rattle.problem_data.specs.Problem.{BoxData, ShapeData, RangeData, ObjectData, DemandData, RuleData, ProblemData, apart, within}
use Rattle.problem_generator.specs.Made.{width, depth, height, numbers_to}

-- the name of a shape of object i
abbrev pub shape_name : ℕ → List ℕ → List ℕ
shape_name i letter = codes "s" ++ (decimal i ++ letter)

-- a box of three lengths at the origin
abbrev pub box : ℕ → ℕ → ℕ → BoxData
box l1 l2 l3 = record {
  offsets = pos 0 ∷ pos 0 ∷ pos 0 ∷ [];
  sizes = pos l1 ∷ pos l2 ∷ pos l3 ∷ [];
}

-- a shape of one such box
abbrev pub shape : ℕ → List ℕ → ℕ → ℕ → ℕ → ShapeData
shape i letter l1 l2 l3 = record {
  name = shape_name i letter;
  boxes = box l1 l2 l3 ∷ [];
}

-- the two shapes of object i: as its size is drawn, and turned by a quarter
abbrev pub shapes : ℕ → ℕ → List ShapeData
shapes seed i =
    shape i (codes "a") (width seed i) (depth seed i) (height seed i)
    ∷ shape i (codes "b") (depth seed i) (width seed i) (height seed i) ∷ []

abbrev pub range_to : ℕ → RangeData
range_to high = record { low = pos 0; high = pos high }

-- the cells of the rack
abbrev pub rack : List RangeData
rack = range_to 19 ∷ range_to 19 ∷ range_to 9 ∷ []

-- object i takes one of its shapes, and its origin is a cell of the rack
abbrev pub object : ℕ → ObjectData
object i = record {
  name = codes "o" ++ decimal i;
  shapes = (2 * i - 2) ∷ (2 * i - 1) ∷ [];
  may_be_absent = false;
  pieces = map (λ range. range ∷ []) rack;
  attributes = [];
}

-- the rules. Their places are left out
abbrev pub rule : List ℕ → DemandData → RuleData
rule name demand = record { place = 0; name = name; demand = demand }

abbrev pub rules : List RuleData
rules = rule (codes "rack") (within rack) ∷ rule (codes "free") apart ∷ []

-- forty objects, which lie apart in the rack
abbrev pub made_problem : ℕ → ProblemData
made_problem seed = record {
  version = 1;
  dims = 3;
  shapes = flat_map (shapes seed) (numbers_to 40);
  objects = map object (numbers_to 40);
  macros = [];
  rules = rules;
  order = range_with_len 0 40;
  sides = Low ∷ Low ∷ Low ∷ [];
}
