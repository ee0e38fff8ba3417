-- Problems all of whose texts are ASCII.
use Rattle.std.specs.Prelude.{ℕ, List, All}
use Rattle.std.specs.Str.{IsAscii}
use Rattle.problem_data.specs.Problem.{AttributeData, ShapeData, ObjectData, MacroData, RuleData, ProblemData}
use Rattle.problem_text.specs.Canonical.{name_at, shape_names, object_names}
use Rattle.geo_json.specs.SheetOf.{macro_text, body_text}

abbrev pub IsAsciiShape : ShapeData → Type 0
IsAsciiShape s = IsAscii s.name

pub record IsAsciiObject (o : ObjectData) : Type 0 where
  pub name : IsAscii o.name
  pub attributes : All (λ (a : AttributeData). IsAscii a.name) o.attributes

abbrev pub IsAsciiMacro : MacroData → Type 0
IsAsciiMacro m = IsAscii (macro_text m)

pub record IsAsciiRule (r : RuleData) : Type 0 where
  pub name : IsAscii r.name
  pub body : IsAscii (body_text r.demand)

-- the names at all positions
abbrev pub AreAsciiNames : List (List ℕ) → Type 0
AreAsciiNames names = (k : ℕ) → IsAscii (name_at names k)

pub record IsAsciiProblem (p : ProblemData) : Type 0 where
  pub shapes : All IsAsciiShape p.shapes
  pub objects : All IsAsciiObject p.objects
  pub macros : All IsAsciiMacro p.macros
  pub rules : All IsAsciiRule p.rules
  pub shape_names : AreAsciiNames (shape_names p)
  pub object_names : AreAsciiNames (object_names p)
