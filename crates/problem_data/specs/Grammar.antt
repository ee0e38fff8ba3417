-- The grammar: which tokens of a text spell which statements. n is how many levels a formula or an
-- expression may open. A text whose first number is 2 is of version 2; any other has the grammar of
-- version 1.
--
--   problem   = 'geost' NUM 'dims' NUM { statement } 'end'
--   statement = 'shape' NAME box { box } ';'
--             | 'object' NAME 'as' shapes 'at' pieces { pieces } [ 'with' attr { ',' attr } ] ';'
--             | 'order' NAME { ',' NAME } ';'
--             | 'sides' side { side } ';'
--             | 'macro' NAME '(' [ param { ',' param } ] ')' ( 'means' formula | 'is' expr ) ';'
--             | 'rule' NAME ':' ( 'apart' | 'within' range { range } | formula ) ';'
--   box       = 'box' int { int } 'size' int { int }
--   attr      = NAME '=' int
--   side      = 'low' | 'high'
--   param     = NAME ':' ( 'int' | 'object' | 'box' )
--   shapes    = NAME { ',' NAME }                    in version 1
--             | NAME { ',' NAME } [ ',' 'absent' ]   in version 2
--   pieces    = range               in version 1
--             | range { ',' range }   in version 2
--   range     = int '..' int
--   int       = [ '-' ] NUM
use Rattle.std.specs.Prelude.{ℕ, pos, neg_ℤ, List, [], ◌∷◌, Option, None, Bool, true, false, ◌==◌}
use Rattle.geo_tokens.specs.declared.token.Keyword.TheVariants as keywords
use Rattle.geo_tokens.specs.declared.token.Sym.TheVariants as symbols
use Rattle.geo_tokens.specs.declared.token.Kind.{Kind}
use Rattle.geo_tokens.specs.declared.token.Kind.TheVariants as kinds
use Rattle.geo_tokens.specs.declared.token.Token.{Token}
use Rattle.geo_tokens.specs.Class.{number_in}
use Rattle.geo_tokens.specs.Words.{numbers, word, symbol, Lang, Pure, Tok, Bind, Either, Opt, Many, Ended}
use Rattle.rule_syntax.specs.declared.tree.PlacedName.{PlacedName}
use Rattle.rule_syntax.specs.Grammar.{Named, ExprWords, FormulaWords}
use Rattle.problem_data.specs.declared.tree.Int.{Int}
use Rattle.problem_data.specs.declared.tree.RangeText.{RangeText}
use Rattle.problem_data.specs.declared.tree.AttributeText.{AttributeText}
use Rattle.problem_data.specs.declared.tree.Side.{Side}
use Rattle.problem_data.specs.declared.tree.Side.TheVariants.{Low, High}
use Rattle.problem_data.specs.declared.tree.SideText.{SideText}
use Rattle.problem_data.specs.declared.tree.ParamKind.{ParamKind}
use Rattle.problem_data.specs.declared.tree.ParamKind.TheVariants as params
use Rattle.problem_data.specs.declared.tree.ParamText.{ParamText}
use Rattle.problem_data.specs.Marks.{side_words, param_words}
use Rattle.problem_data.specs.Tree.{BoxTree, BodyTree, means, equals, DemandTree, apart, within, plain, StatementTree, a_shape, an_object, an_order, some_sides, a_macro, a_rule, ProblemTree}

-- ---- what tokens say

-- a number without a sign
abbrev pub plain_int : Token → Int
plain_int n = record { place = n.start; value = pos (number_in n.kind) }

-- a number behind a minus
abbrev pub negative_int : Token → Token → Int
negative_int m n = record { place = m.start; value = neg_ℤ (pos (number_in n.kind)) }

abbrev pub range_text : Int → Int → RangeText
range_text a b = record { low = a; high = b }

abbrev pub box_tree : Token → List Int → List Int → BoxTree
box_tree b os ss = record { place = b.start; offsets = os; sizes = ss }

abbrev pub attribute_text : PlacedName → Int → AttributeText
attribute_text a v = record { name = a; value = v }

-- which side a word means
abbrev pub side_in : Kind → Side
side_in (kinds.Word keywords.Low) = Low
side_in _ = High

abbrev pub side_text : Token → SideText
side_text t = record { place = t.start; side = side_in t.kind }

-- what a parameter stands for, by its word
abbrev pub param_in : Kind → ParamKind
param_in (kinds.Word keywords.Int) = params.Int
param_in (kinds.Word keywords.Object) = params.Object
param_in _ = params.Box

abbrev pub param_text : PlacedName → Token → ParamText
param_text a t = record { name = a; kind = param_in t.kind }

abbrev pub shape_tree : PlacedName → List BoxTree → StatementTree
shape_tree a bs = a_shape (record { name = a; boxes = bs })

-- the shapes of an object, and the place of the word `absent` where it stands behind them
abbrev pub ShapeList : Type 0
ShapeList = List PlacedName × Option ℕ

abbrev pub object_tree : PlacedName → ShapeList → List (List RangeText) → List AttributeText → StatementTree
object_tree a ss ps vs = an_object (record { name = a; shapes = ss.0; absent = ss.1; pieces = ps; attributes = vs })

abbrev pub order_tree : Token → List PlacedName → StatementTree
order_tree t ns = an_order (record { place = t.start; names = ns })

abbrev pub sides_tree : Token → List SideText → StatementTree
sides_tree t ss = some_sides (record { place = t.start; sides = ss })

abbrev pub macro_tree : PlacedName → List ParamText → BodyTree → StatementTree
macro_tree a ps b = a_macro (record { name = a; params = ps; body = b })

abbrev pub rule_tree : PlacedName → DemandTree → StatementTree
rule_tree a d = a_rule (record { name = a; demand = d })

abbrev pub problem_tree : Token → Token → List StatementTree → ProblemTree
problem_tree v d ss = record { version = plain_int v; dims = plain_int d; statements = ss }

-- ---- lists

-- one list of the language or more, one after the other
abbrev pub OneOrMore : {A : Type 0} → Lang A → Lang (List A)
OneOrMore L = Bind L (λ a. Bind (Many L) (λ others. Pure (a ∷ others)))

-- one list of the language or more, with commas between them
abbrev pub Listed : {A : Type 0} → Lang A → Lang (List A)
Listed L = Bind L (λ a. Bind (Many (Bind (Tok (symbol symbols.Comma)) (λ mark. L))) (λ others. Pure (a ∷ others)))

-- ---- numbers, ranges and boxes

abbrev pub PlainInt : Lang Int
PlainInt = Bind (Tok numbers) (λ n. Pure (plain_int n))

abbrev pub NegativeInt : Lang Int
NegativeInt = Bind (Tok (symbol symbols.Minus)) (λ m. Bind (Tok numbers) (λ n. Pure (negative_int m n)))

unfoldable pub IntWords : Lang Int
IntWords = Either NegativeInt PlainInt

unfoldable pub RangeWords : Lang RangeText
RangeWords = Bind IntWords (λ a. Bind (Tok (symbol symbols.DotDot)) (λ d. Bind IntWords (λ b. Pure (range_text a b))))

unfoldable pub BoxWords : Lang BoxTree
BoxWords = Bind (Tok (word keywords.Box)) (λ b. Bind (OneOrMore IntWords) (λ os. Bind (Tok (word keywords.Size)) (λ c. Bind (OneOrMore IntWords) (λ ss. Pure (box_tree b os ss)))))

-- ---- shapes, objects, the order and the sides

unfoldable pub ShapeWords : List ℕ → Lang StatementTree
ShapeWords text =
    Bind (Tok (word keywords.Shape)) (λ t. Bind (Named text) (λ a. Bind (OneOrMore BoxWords) (λ bs. Bind (Tok (symbol symbols.Semicolon)) (λ e. Pure (shape_tree a bs)))))

unfoldable pub AttributeWords : List ℕ → Lang AttributeText
AttributeWords text = Bind (Named text) (λ a. Bind (Tok (symbol symbols.Equal)) (λ e. Bind IntWords (λ v. Pure (attribute_text a v))))

-- the attributes of an object, which may be left out
unfoldable pub Attributes : List ℕ → Lang (List AttributeText)
Attributes text = Opt (Bind (Tok (word keywords.With)) (λ t. Listed (AttributeWords text))) []

-- the word `absent`, by its place
abbrev pub AbsentWord : Lang ℕ
AbsentWord = Bind (Tok (word keywords.Absent)) (λ t. Pure t.start)

-- the shapes of an object, in a text of version 2 or of version 1
unfoldable pub ShapesWords : List ℕ → Bool → Lang ShapeList
ShapesWords text false = Bind (Listed (Named text)) (λ ss. Pure (ss, None))
ShapesWords text true = Bind (Named text) (λ a. Bind (Ended (symbol symbols.Comma) (Named text) AbsentWord) (λ r. Pure (a ∷ r.0, r.1)))

-- the range of a coordinate, in a text of version 2 or of version 1
unfoldable pub PiecesWords : Bool → Lang (List RangeText)
PiecesWords false = Bind RangeWords (λ r. Pure (r ∷ []))
PiecesWords true = Listed RangeWords

unfoldable pub ObjectWords : List ℕ → Bool → Lang StatementTree
ObjectWords text second =
    Bind (Tok (word keywords.Object)) (λ t. Bind (Named text) (λ a.
    Bind (Tok (word keywords.As)) (λ u. Bind (ShapesWords text second) (λ ss.
    Bind (Tok (word keywords.At)) (λ v. Bind (OneOrMore (PiecesWords second)) (λ ps.
    Bind (Attributes text) (λ vs. Bind (Tok (symbol symbols.Semicolon)) (λ e. Pure (object_tree a ss ps vs)))))))))

unfoldable pub OrderWords : List ℕ → Lang StatementTree
OrderWords text = Bind (Tok (word keywords.Order)) (λ t. Bind (Listed (Named text)) (λ ns. Bind (Tok (symbol symbols.Semicolon)) (λ e. Pure (order_tree t ns))))

abbrev pub SideWords : Lang SideText
SideWords = Bind (Tok side_words) (λ t. Pure (side_text t))

unfoldable pub SidesWords : Lang StatementTree
SidesWords = Bind (Tok (word keywords.Sides)) (λ t. Bind (OneOrMore SideWords) (λ ss. Bind (Tok (symbol symbols.Semicolon)) (λ e. Pure (sides_tree t ss))))

-- ---- macros and rules

unfoldable pub ParamWords : List ℕ → Lang ParamText
ParamWords text = Bind (Named text) (λ a. Bind (Tok (symbol symbols.Colon)) (λ c. Bind (Tok param_words) (λ t. Pure (param_text a t))))

-- the parameters of a macro in their brackets, which open no level
unfoldable pub Params : List ℕ → Lang (List ParamText)
Params text = Bind (Tok (symbol symbols.ParenOpen)) (λ t. Bind (Opt (Listed (ParamWords text)) []) (λ ps. Bind (Tok (symbol symbols.ParenClose)) (λ u. Pure ps)))

unfoldable pub BodyWords : List ℕ → ℕ → Lang BodyTree
BodyWords text n = Either
    (Bind (Tok (word keywords.Means)) (λ t. Bind (FormulaWords text n) (λ f. Pure (means f))))
    (Bind (Tok (word keywords.Is)) (λ t. Bind (ExprWords text n) (λ e. Pure (equals e))))

unfoldable pub MacroWords : List ℕ → ℕ → Lang StatementTree
MacroWords text n =
    Bind (Tok (word keywords.Macro)) (λ t. Bind (Named text) (λ a. Bind (Params text) (λ ps. Bind (BodyWords text n) (λ b. Bind (Tok (symbol symbols.Semicolon)) (λ e. Pure (macro_tree a ps b))))))

unfoldable pub DemandWords : List ℕ → ℕ → Lang DemandTree
DemandWords text n = Either
    (Bind (Tok (word keywords.Apart)) (λ t. Pure apart))
    (Either (Bind (Tok (word keywords.Within)) (λ t. Bind (OneOrMore RangeWords) (λ rs. Pure (within rs))))
    (Bind (FormulaWords text n) (λ f. Pure (plain f))))

unfoldable pub RuleWords : List ℕ → ℕ → Lang StatementTree
RuleWords text n =
    Bind (Tok (word keywords.Rule)) (λ t. Bind (Named text) (λ a. Bind (Tok (symbol symbols.Colon)) (λ c. Bind (DemandWords text n) (λ d. Bind (Tok (symbol symbols.Semicolon)) (λ e. Pure (rule_tree a d))))))

-- ---- the whole text

unfoldable pub StatementWords : List ℕ → ℕ → Bool → Lang StatementTree
StatementWords text n second = Either (ShapeWords text) (Either (ObjectWords text second) (Either (OrderWords text) (Either SidesWords (Either (MacroWords text n) (RuleWords text n)))))

-- the text is of version 2, where this is its first number
abbrev pub is_second : Token → Bool
is_second v = number_in v.kind == 2

unfoldable pub ProblemWords : List ℕ → ℕ → Lang ProblemTree
ProblemWords text n =
    Bind (Tok (word keywords.Geost)) (λ a. Bind (Tok numbers) (λ v.
    Bind (Tok (word keywords.Dims)) (λ b. Bind (Tok numbers) (λ d.
    Bind (Many (StatementWords text n (is_second v))) (λ ss. Bind (Tok (word keywords.End)) (λ e. Pure (problem_tree v d ss)))))))
