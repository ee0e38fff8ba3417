-- The parts of a problem as values of JSON, and which of them may be said.
use Rattle.std.specs.Prelude.{List, codes, All}
use Rattle.serde_json.specs.Data.{Data, object, member, no_members}
use Rattle.problem_data.specs.declared.tree.Side.{Side}
use Rattle.problem_data.specs.declared.tree.Side.TheVariants.{Low, High}
use Rattle.problem_data.specs.Problem.{BoxData, ShapeData, RangeData, AttributeData}
use Rattle.json_parts.specs.Form.{list_json, pair_json, int_json, text_json, IsInt, IsWord}

abbrev pub side_json : Side → Data
side_json Low = text_json (codes "low")
side_json High = text_json (codes "high")

abbrev pub range_json : RangeData → Data
range_json r = pair_json (int_json r.low) (int_json r.high)

pub record IsRange (r : RangeData) : Type 0 where
  pub low : IsInt r.low
  pub high : IsInt r.high

-- the range of a coordinate, by its pieces
abbrev pub pieces_json : List RangeData → Data
pieces_json pieces = list_json range_json pieces

abbrev pub AreRanges : List RangeData → Type 0
AreRanges pieces = All IsRange pieces

abbrev pub attribute_json : AttributeData → Data
attribute_json a = pair_json (text_json a.name) (int_json a.value)

pub record IsAttribute (a : AttributeData) : Type 0 where
  pub name : IsWord a.name
  pub value : IsInt a.value

abbrev pub box_json : BoxData → Data
box_json b = object (member (codes "offset") (list_json int_json b.offsets) (member (codes "size") (list_json int_json b.sizes) no_members))

pub record IsBox (b : BoxData) : Type 0 where
  pub offsets : All IsInt b.offsets
  pub sizes : All IsInt b.sizes

abbrev pub shape_json : ShapeData → Data
shape_json s = object (member (codes "boxes") (list_json box_json s.boxes) (member (codes "name") (text_json s.name) no_members))

pub record IsShape (s : ShapeData) : Type 0 where
  pub boxes : All IsBox s.boxes
  pub name : IsWord s.name
