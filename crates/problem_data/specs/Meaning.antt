-- The problem that statements without a fault spell.
use Rattle.std.specs.Prelude.{ℕ, ℤ, List, [], ◌∷◌, map, length, replicate, is_some}
use Rattle.std.specs.List.{position_or_len, range_with_len}
use Rattle.std.specs.Str.{bytes_eq}
use Rattle.rule_syntax.specs.declared.tree.PlacedName.{PlacedName}
use Rattle.problem_data.specs.declared.tree.Int.{Int}
use Rattle.problem_data.specs.declared.tree.RangeText.{RangeText}
use Rattle.problem_data.specs.declared.tree.AttributeText.{AttributeText}
use Rattle.problem_data.specs.declared.tree.SideText.{SideText}
use Rattle.problem_data.specs.declared.tree.ParamText.{ParamText}
use Rattle.problem_data.specs.declared.tree.Side.{Side}
use Rattle.problem_data.specs.declared.tree.Side.TheVariants as sides
use Rattle.problem_data.specs.Tree.{BoxTree, ShapeTree, ObjectTree, OrderTree, SidesTree, MacroTree, DemandTree, apart, within, plain, RuleTree}
use Rattle.problem_data.specs.Problem as data_of
use Rattle.problem_data.specs.Problem.{BoxData, ShapeData, RangeData, AttributeData, ObjectData, ParamData, MacroData, DemandData, RuleData, ProblemData}
use Rattle.problem_data.specs.Parts.{Parts}
use Rattle.problem_data.specs.Faults.{shape_names, object_names, count_of}

abbrev pub number_of : Int → ℤ
number_of i = i.value

abbrev pub box_of : BoxTree → BoxData
box_of b = record { offsets = map number_of b.offsets; sizes = map number_of b.sizes }

abbrev pub shape_of : ShapeTree → ShapeData
shape_of s = record { name = s.name.name; boxes = map box_of s.boxes }

abbrev pub range_of : RangeText → RangeData
range_of r = record { low = r.low.value; high = r.high.value }

abbrev pub attribute_of : AttributeText → AttributeData
attribute_of a = record { name = a.name.name; value = a.value.value }

abbrev pub pieces_of : List RangeText → List RangeData
pieces_of rs = map range_of rs

-- the first position of a name in a list
abbrev pub position_of : List (List ℕ) → PlacedName → ℕ
position_of names n = position_or_len (bytes_eq n.name) names

abbrev pub object_of : List (List ℕ) → ObjectTree → ObjectData
object_of shapes o = record {
  name = o.name.name;
  shapes = map (position_of shapes) o.shapes;
  may_be_absent = is_some o.absent;
  pieces = map pieces_of o.pieces;
  attributes = map attribute_of o.attributes;
}

abbrev pub param_of : ParamText → ParamData
param_of p = record { name = p.name.name; kind = p.kind }

abbrev pub macro_of : MacroTree → MacroData
macro_of m = record { place = m.name.place; name = m.name.name; params = map param_of m.params; body = m.body }

abbrev pub demand_of : DemandTree → DemandData
demand_of apart = data_of.apart
demand_of (within rs) = data_of.within (map range_of rs)
demand_of (plain f) = data_of.plain f

abbrev pub rule_of : RuleTree → RuleData
rule_of r = record { place = r.name.place; name = r.name.name; demand = demand_of r.demand }

-- the order that is stated, or file order
abbrev pub order_of : List (List ℕ) → List OrderTree → List ℕ
order_of objects [] = range_with_len 0 (length objects)
order_of objects (o ∷ others) = map (position_of objects) o.names

abbrev pub side_of : SideText → Side
side_of s = s.side

-- the sides that are stated, or `low` in each dimension
abbrev pub sides_of : ℕ → List SidesTree → List Side
sides_of k [] = replicate k sides.Low
sides_of k (s ∷ others) = map side_of s.sides

abbrev pub problem_of : Parts → ProblemData
problem_of p = record {
  version = count_of p.version.value;
  dims = count_of p.dims.value;
  shapes = map shape_of p.shapes;
  objects = map (object_of (shape_names p.shapes)) p.objects;
  macros = map macro_of p.macros;
  rules = map rule_of p.rules;
  order = order_of (object_names p.objects) p.orders;
  sides = sides_of (count_of p.dims.value) p.sides;
}
