-- A problem as a sheet, with its statements in canonical texts, and the search order and the sides
-- stated.
use Rattle.std.specs.Prelude.{ℕ, List, ◌∷◌, ◌++◌, map}
use Rattle.rule_print.specs.Canonical.{name, shown}
use Rattle.rule_print.specs.Spelled.{in_list}
use Rattle.problem_data.specs.Problem.{ObjectData, MacroData, DemandData, RuleData, ProblemData}
use Rattle.problem_text.specs.Canonical.{listed, param_spelling, body_spelling, demand_spelling, name_at, shape_names, object_names}
use Rattle.problem_text.specs.NameTable.{absent_names}
use Rattle.json_sheets.specs.Sheet.{ObjectSheetData, RuleSheetData, SheetData}

-- the names of an object's shapes, and the word `absent` where it may be absent; the shapes have
-- these names
abbrev pub shape_words : List (List ℕ) → ObjectData → List (List ℕ)
shape_words names o = map (name_at names) o.shapes ++ absent_names o.may_be_absent

abbrev pub object_sheet_of : List (List ℕ) → ObjectData → ObjectSheetData
object_sheet_of names o = record { name = o.name; shapes = shape_words names o; ranges = o.pieces; attributes = o.attributes }

-- the canonical statement of a macro, without its first word and what ends it
abbrev pub macro_text : MacroData → List ℕ
macro_text m = shown (name m.name ∷ (in_list (listed param_spelling m.params) ++ body_spelling m.body))

-- the canonical text of what a rule asks for
abbrev pub body_text : DemandData → List ℕ
body_text d = shown (demand_spelling d)

abbrev pub rule_sheet_of : RuleData → RuleSheetData
rule_sheet_of r = record { name = r.name; body = body_text r.demand }

abbrev pub sheet_of : ProblemData → SheetData
sheet_of p = record {
  version = p.version;
  dims = p.dims;
  shapes = p.shapes;
  objects = map (object_sheet_of (shape_names p)) p.objects;
  macros = map macro_text p.macros;
  order = map (name_at (object_names p)) p.order;
  sides = p.sides;
  rules = map rule_sheet_of p.rules;
}
