-- The canonical text of a problem: its statements by kind, in file order, each on a line of its
-- own.
use Rattle.std.specs.Prelude.{◌≡◌, ◌<◌, ℕ, suc, ℤ, pos, negsuc, List, [], ◌∷◌, ◌++◌, length, map, flat_map, slice_index_or, Bool, true, false, not, ◌==◌, ◌&&◌, if◌then◌else◌}
use Rattle.std.specs.List.{list_any}
use Rattle.geo_tokens.specs.declared.token.Keyword.{Keyword}
use Rattle.geo_tokens.specs.declared.token.Keyword.TheVariants as keywords
use Rattle.geo_tokens.specs.declared.token.Sym.TheVariants as syms
use Rattle.rule_print.specs.declared.rank.ExprRank.TheVariants as expr_ranks
use Rattle.rule_print.specs.declared.rank.FormulaRank.TheVariants as ranks
use Rattle.rule_print.specs.Canonical.{Written, name, number, word, symbol, sign, shown}
use Rattle.rule_print.specs.Spelled.{in_list, expr_spelling, formula_spelling}
use Rattle.problem_data.specs.declared.tree.ParamKind.{ParamKind}
use Rattle.problem_data.specs.declared.tree.ParamKind.TheVariants.{Int, Object, Box}
use Rattle.problem_data.specs.declared.tree.Side.{Side}
use Rattle.problem_data.specs.declared.tree.Side.TheVariants.{Low, High}
use Rattle.problem_data.specs.Tree.{BodyTree, means, equals}
use Rattle.problem_data.specs.Problem.{BoxData, ShapeData, RangeData, AttributeData, ObjectData, ParamData, MacroData, DemandData, apart, within, plain, RuleData, ProblemData, runs_down}

-- ---- parts of statements

-- members, each behind a comma
abbrev pub more_listed : {A : Type 0} → (A → List Written) → List A → List Written
more_listed s [] = []
more_listed s (a ∷ others) = symbol syms.Comma ∷ (s a ++ more_listed s others)

-- members with commas between them
abbrev pub listed : {A : Type 0} → (A → List Written) → List A → List Written
listed s [] = []
listed s (a ∷ others) = s a ++ more_listed s others

abbrev pub name_spelling : List ℕ → List Written
name_spelling bytes = name bytes ∷ []

abbrev pub int_spelling : ℤ → List Written
int_spelling (pos n) = number n ∷ []
int_spelling (negsuc n) = sign ∷ number (suc n) ∷ []

abbrev pub ints_spelling : List ℤ → List Written
ints_spelling vs = flat_map int_spelling vs

abbrev pub range_spelling : RangeData → List Written
range_spelling r = int_spelling r.low ++ symbol syms.DotDot ∷ int_spelling r.high

abbrev pub ranges_spelling : List RangeData → List Written
ranges_spelling rs = flat_map range_spelling rs

-- the range of a coordinate: its pieces, with commas between them
abbrev pub pieces_spelling : List RangeData → List Written
pieces_spelling pieces = listed range_spelling pieces

abbrev pub box_spelling : BoxData → List Written
box_spelling b = word keywords.Box ∷ (ints_spelling b.offsets ++ word keywords.Size ∷ ints_spelling b.sizes)

abbrev pub attribute_spelling : AttributeData → List Written
attribute_spelling a = name a.name ∷ symbol syms.Equal ∷ int_spelling a.value

-- the attributes with their word, and nothing where there are none
abbrev pub attributes_spelling : List AttributeData → List Written
attributes_spelling [] = []
attributes_spelling (a ∷ others) = word keywords.With ∷ listed attribute_spelling (a ∷ others)

abbrev pub kind_word : ParamKind → Keyword
kind_word Int = keywords.Int
kind_word Object = keywords.Object
kind_word Box = keywords.Box

abbrev pub param_spelling : ParamData → List Written
param_spelling p = name p.name ∷ symbol syms.Colon ∷ word (kind_word p.kind) ∷ []

abbrev pub body_spelling : BodyTree → List Written
body_spelling (means f) = word keywords.Means ∷ formula_spelling ranks.Equivalence f
body_spelling (equals e) = word keywords.Is ∷ expr_spelling expr_ranks.Sum e

abbrev pub demand_spelling : DemandData → List Written
demand_spelling apart = word keywords.Apart ∷ []
demand_spelling (within rs) = word keywords.Within ∷ ranges_spelling rs
demand_spelling (plain f) = formula_spelling ranks.Equivalence f

abbrev pub side_spelling : Side → List Written
side_spelling Low = word keywords.Low ∷ []
side_spelling High = word keywords.High ∷ []

-- ---- statements

-- the name at a position
abbrev pub name_at : List (List ℕ) → ℕ → List ℕ
name_at names i = slice_index_or names i []

abbrev pub shape_names : ProblemData → List (List ℕ)
shape_names p = map (λ s. s.name) p.shapes

abbrev pub object_names : ProblemData → List (List ℕ)
object_names p = map (λ o. o.name) p.objects

abbrev pub closed : List Written → List Written
closed ps = ps ++ symbol syms.Semicolon ∷ []

abbrev pub shape_spelling : ShapeData → List Written
shape_spelling s = word keywords.Shape ∷ name s.name ∷ closed (flat_map box_spelling s.boxes)

-- the word `absent` behind the shapes of an object that may be absent
abbrev pub absent_spelling : Bool → List Written
absent_spelling true = symbol syms.Comma ∷ word keywords.Absent ∷ []
absent_spelling false = []

-- the shapes of an object, where they have these names
abbrev pub shapes_spelling : List (List ℕ) → ObjectData → List Written
shapes_spelling names o = listed (λ i. name_spelling (name_at names i)) o.shapes ++ absent_spelling o.may_be_absent

-- an object, where the shapes have these names
abbrev pub object_spelling : List (List ℕ) → ObjectData → List Written
object_spelling names o =
    word keywords.Object ∷ name o.name ∷ word keywords.As ∷ (shapes_spelling names o ++ word keywords.At ∷ (flat_map pieces_spelling o.pieces ++ closed (attributes_spelling o.attributes)))

abbrev pub macro_spelling : MacroData → List Written
macro_spelling m = word keywords.Macro ∷ name m.name ∷ (in_list (listed param_spelling m.params) ++ closed (body_spelling m.body))

abbrev pub rule_spelling : RuleData → List Written
rule_spelling r = word keywords.Rule ∷ name r.name ∷ symbol syms.Colon ∷ closed (demand_spelling r.demand)

-- the search order, where the objects have these names
abbrev pub order_spelling : List (List ℕ) → List ℕ → List Written
order_spelling names order = word keywords.Order ∷ closed (listed (λ i. name_spelling (name_at names i)) order)

abbrev pub sides_spelling : List Side → List Written
sides_spelling sides = word keywords.Sides ∷ closed (flat_map side_spelling sides)

-- ---- the text

-- a line
abbrev pub line_text : List Written → List ℕ
line_text ps = shown ps ++ 10 ∷ []

-- the positions from k on, each one more than the one before
abbrev pub counts_from : ℕ → List ℕ → Bool
counts_from k [] = true
counts_from k (i ∷ others) = (i == k) && counts_from (suc k) others

-- a line where it is needed
abbrev pub line_if : Bool → List Written → List ℕ
line_if needed ps = if needed then line_text ps else []

abbrev pub head_spelling : ProblemData → List Written
head_spelling p = word keywords.Geost ∷ number p.version ∷ word keywords.Dims ∷ number p.dims ∷ []

-- The text that states the search order or not, and the sides or not: the first line, the shapes,
-- the objects and the macros; the order and the sides where they are stated; the rules, and the
-- word `end`.
abbrev pub text_stating : (order sides : Bool) → ProblemData → List ℕ
text_stating order sides p =
    line_text (head_spelling p) ++ (flat_map (λ s. line_text (shape_spelling s)) p.shapes
    ++ (flat_map (λ o. line_text (object_spelling (shape_names p) o)) p.objects
    ++ (flat_map (λ m. line_text (macro_spelling m)) p.macros
    ++ (line_if order (order_spelling (object_names p) p.order)
    ++ (line_if sides (sides_spelling p.sides)
    ++ (flat_map (λ r. line_text (rule_spelling r)) p.rules
    ++ line_text (word keywords.End ∷ [])))))))

-- the search order is not file order
abbrev pub needs_order : ProblemData → Bool
needs_order p = not (counts_from 0 p.order)

-- a side is high
abbrev pub needs_sides : ProblemData → Bool
needs_sides p = list_any runs_down p.sides

-- the canonical text: it states the order where that is not file order, and the sides where one is
-- high
abbrev pub problem_text : ProblemData → List ℕ
problem_text p = text_stating (needs_order p) (needs_sides p) p

-- The text that states the order or not, and the sides or not, can be read as the problem: an order
-- that is stated has an object, one that is left out is file order, and sides that are left out are
-- all low.
pub record MayState (order sides : Bool) (p : ProblemData) : Type 0 where
  pub some : order ≡ true → 0 < length p.order
  pub file_order : order ≡ false → counts_from 0 p.order ≡ true
  pub low_sides : sides ≡ false → list_any runs_down p.sides ≡ false
