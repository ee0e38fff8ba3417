-- The text of statements that a sheet spells: a statement on a line, with the spaces of canonical
-- texts. The text of a macro and the body of a rule stand in it as they are.
use Rattle.std.specs.Prelude.{◌≡◌, ℕ, List, [], ◌∷◌, ◌++◌, flat_map, Some, IsUtf8}
use Rattle.serde_json.specs.Data.{Data}
use Rattle.serde_json.specs.Read.{read}
use Rattle.geo_tokens.specs.declared.token.Keyword.TheVariants as keywords
use Rattle.geo_tokens.specs.declared.token.Sym.TheVariants as syms
use Rattle.rule_print.specs.Canonical.{Written, name, number, word, symbol}
use Rattle.problem_text.specs.Canonical.{listed, name_spelling, pieces_spelling, attributes_spelling, closed, shape_spelling, sides_spelling, line_text}
use Rattle.json_sheets.specs.Sheet.{ObjectSheetData, RuleSheetData, SheetData, IsSheet, sheet_json, HasNoSheet}

abbrev pub head_line : SheetData → List Written
head_line s = word keywords.Geost ∷ number s.version ∷ word keywords.Dims ∷ number s.dims ∷ []

abbrev pub object_line : ObjectSheetData → List Written
object_line o =
    word keywords.Object ∷ name o.name ∷ word keywords.As ∷ (listed name_spelling o.shapes
    ++ word keywords.At ∷ (flat_map pieces_spelling o.ranges ++ closed (attributes_spelling o.attributes)))

abbrev pub macro_line : List ℕ → List Written
macro_line text = word keywords.Macro ∷ closed (name text ∷ [])

abbrev pub rule_line : RuleSheetData → List Written
rule_line r = word keywords.Rule ∷ name r.name ∷ symbol syms.Colon ∷ closed (name r.body ∷ [])

abbrev pub order_line : List (List ℕ) → List Written
order_line names = word keywords.Order ∷ closed (listed name_spelling names)

-- a line for each
abbrev pub lines : {A : Type 0} → (A → List Written) → List A → List ℕ
lines line xs = flat_map (λ x. line_text (line x)) xs

-- the line of a list, and nothing where the list is empty
abbrev pub line_where_some : {A : Type 0} → (List A → List Written) → List A → List ℕ
line_where_some line [] = []
line_where_some line (x ∷ xs) = line_text (line (x ∷ xs))

-- The first line, the shapes, the objects and the macros; the search order and the sides, where
-- their lists are not empty; the rules, and the word `end`.
abbrev pub sheet_text : SheetData → List ℕ
sheet_text s =
    line_text (head_line s) ++ (lines shape_spelling s.shapes ++ (lines object_line s.objects ++ (lines macro_line s.macros
    ++ (line_where_some order_line s.order ++ (line_where_some sides_spelling s.sides ++ (lines rule_line s.rules
    ++ line_text (word keywords.End ∷ [])))))))

-- the value is that of a sheet that may be said, and this is its text
pub record Spells (d : Data) (text : List ℕ) : Type 0 where
  pub sheet : SheetData
  pub right : IsSheet sheet
  pub value : d ≡ sheet_json sheet
  pub says : text ≡ sheet_text sheet

-- the text is UTF-8 and has a value in JSON, which spells this
pub record TextSpells (text built : List ℕ) : Type 0 where
  pub utf8 : IsUtf8 text
  pub value : Data
  pub is_read : read text ≡ Some value
  pub spells : Spells value built

-- no value of the text is that of a sheet that may be said
abbrev pub SpellsNothing : List ℕ → Type 0
SpellsNothing text = IsUtf8 text → (d : Data) → read text ≡ Some d → HasNoSheet d
