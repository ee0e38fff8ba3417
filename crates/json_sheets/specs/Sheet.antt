-- A problem as its value of JSON has it, and that value. A sheet need not be a problem.
use Rattle.std.specs.Prelude.{◌≡◌, ℕ, List, map, codes, All}
use Rattle.serde_json.specs.Data.{Data, object, member, no_members}
use Rattle.problem_data.specs.declared.tree.Side.{Side}
use Rattle.problem_data.specs.Problem.{ShapeData, RangeData, AttributeData}
use Rattle.problem_data.specs.ProblemView.{attribute_data}
use Rattle.json_parts.specs.Form.{list_json, count_json, text_json, IsCount, IsWord, IsFree}
use Rattle.json_parts.specs.Values.{side_json, pieces_json, attribute_json, shape_json, AreRanges, IsAttribute, IsShape}
use Rattle.json_sheets.specs.declared.object.ObjectSheet.{ObjectSheet}
use Rattle.json_sheets.specs.declared.rule.RuleSheet.{RuleSheet}
use Rattle.json_sheets.specs.declared.sheet.Sheet.{Sheet}

-- an object: the names of its shapes, where `absent` may be one, and for each coordinate the pieces
-- of its range
pub record ObjectSheetData : Type 0 where
  pub name : List ℕ
  pub shapes : List (List ℕ)
  pub ranges : List (List RangeData)
  pub attributes : List AttributeData

-- a rule, with what it asks for as text
pub record RuleSheetData : Type 0 where
  pub name : List ℕ
  pub body : List ℕ

-- Names, numbers and texts. A macro is the text of its statement behind its first word.
pub record SheetData : Type 0 where
  pub version : ℕ
  pub dims : ℕ
  pub shapes : List ShapeData
  pub objects : List ObjectSheetData
  pub macros : List (List ℕ)
  pub order : List (List ℕ)
  pub sides : List Side
  pub rules : List RuleSheetData

-- ---- what the program holds

abbrev pub object_sheet : ObjectSheet → ObjectSheetData
object_sheet o = record { name = o.name; shapes = o.shapes.items; ranges = o.ranges.items; attributes = map attribute_data o.attributes.items }

abbrev pub rule_sheet : RuleSheet → RuleSheetData
rule_sheet r = record { name = r.name; body = r.body }

abbrev pub sheet_data : Sheet → SheetData
sheet_data s = record { version = s.version; dims = s.dims; shapes = s.shapes.items; objects = map object_sheet s.objects.items; macros = s.macros.items; order = s.order.items; sides = s.sides.items; rules = map rule_sheet s.rules.items }

-- ---- which sheets may be said

pub record IsObjectSheet (o : ObjectSheetData) : Type 0 where
  pub attributes : All IsAttribute o.attributes
  pub name : IsWord o.name
  pub ranges : All AreRanges o.ranges
  pub shapes : All IsWord o.shapes

pub record IsRuleSheet (r : RuleSheetData) : Type 0 where
  pub body : IsFree r.body
  pub name : IsWord r.name

pub record IsSheet (s : SheetData) : Type 0 where
  pub dims : IsCount s.dims
  pub version : IsCount s.version
  pub macros : All IsFree s.macros
  pub objects : All IsObjectSheet s.objects
  pub order : All IsWord s.order
  pub rules : All IsRuleSheet s.rules
  pub shapes : All IsShape s.shapes

-- ---- the value

abbrev pub object_json : ObjectSheetData → Data
object_json o =
    object (member (codes "attributes") (list_json attribute_json o.attributes) (member (codes "name") (text_json o.name)
    (member (codes "ranges") (list_json pieces_json o.ranges) (member (codes "shapes") (list_json text_json o.shapes) no_members))))

abbrev pub rule_json : RuleSheetData → Data
rule_json r = object (member (codes "body") (text_json r.body) (member (codes "name") (text_json r.name) no_members))

-- the members, in the order of their keys
abbrev pub sheet_json : SheetData → Data
sheet_json s =
    object (member (codes "dims") (count_json s.dims) (member (codes "geost") (count_json s.version)
    (member (codes "macros") (list_json text_json s.macros) (member (codes "objects") (list_json object_json s.objects)
    (member (codes "order") (list_json text_json s.order) (member (codes "rules") (list_json rule_json s.rules)
    (member (codes "shapes") (list_json shape_json s.shapes) (member (codes "sides") (list_json side_json s.sides) no_members))))))))

-- no sheet that may be said has this value
abbrev pub HasNoSheet : Data → Type 0
HasNoSheet d = (s : SheetData) → IsSheet s → d ≡ sheet_json s → ⊥
