-- Reading the grammar from the left: one definition for each language, of the same form.
use Rattle.std.specs.Prelude.{ℕ, List, [], ◌∷◌, Option, Some, None, Bool, true, false, ◌&&◌, drop}
use Rattle.geo_tokens.specs.declared.token.Token.{Token}
use Rattle.geo_tokens.specs.declared.token.Keyword.TheVariants as keywords
use Rattle.geo_tokens.specs.declared.token.Sym.TheVariants as symbols
use Rattle.geo_tokens.specs.Words.{Kinds, names, numbers, word, symbol}
use Rattle.geo_tokens.specs.Reading.{Got, ◌>>=◌, next_is, token_at, either_at, opt_at, many_at, many_ended_at}
use Rattle.rule_syntax.specs.declared.tree.PlacedName.{PlacedName}
use Rattle.rule_syntax.specs.Reading.{Reader, named_at, expr_at, formula_at}
use Rattle.problem_data.specs.declared.tree.Int.{Int}
use Rattle.problem_data.specs.declared.tree.RangeText.{RangeText}
use Rattle.problem_data.specs.declared.tree.AttributeText.{AttributeText}
use Rattle.problem_data.specs.declared.tree.SideText.{SideText}
use Rattle.problem_data.specs.declared.tree.ParamText.{ParamText}
use Rattle.problem_data.specs.Marks.{int_firsts, side_words, param_words, statement_firsts}
use Rattle.problem_data.specs.Tree.{BoxTree, BodyTree, means, equals, DemandTree, apart, within, plain, StatementTree, ProblemTree}
use Rattle.problem_data.specs.Grammar.{ShapeList, is_second, plain_int, negative_int, range_text, box_tree, attribute_text, side_text, param_text, shape_tree, object_tree, order_tree, sides_tree, macro_tree, rule_tree}

-- ---- lists

abbrev pub one_or_more_at : {A : Type 0} → Kinds → Reader A → Reader (List A)
one_or_more_at firsts r w = r w >>= λ a rest. many_at firsts r rest >>= λ others last. Got (Some (a ∷ others)) last

-- a comma and what stands behind it
abbrev pub next_at : {A : Type 0} → Reader A → Reader A
next_at r w = token_at (symbol symbols.Comma) w >>= λ mark rest. r rest

abbrev pub listed_at : {A : Type 0} → Reader A → Reader (List A)
listed_at r w = r w >>= λ a rest. many_at (symbol symbols.Comma) (next_at r) rest >>= λ others last. Got (Some (a ∷ others)) last

-- a semicolon behind what a statement says
abbrev pub ended_at : {A : Type 0} → A → Reader A
ended_at s w = token_at (symbol symbols.Semicolon) w >>= λ e rest. Got (Some s) rest

-- ---- numbers, ranges and boxes

abbrev pub plain_int_at : Reader Int
plain_int_at w = token_at numbers w >>= λ n rest. Got (Some (plain_int n)) rest

abbrev pub negative_int_at : Reader Int
negative_int_at w = token_at (symbol symbols.Minus) w >>= λ m a. token_at numbers a >>= λ n rest. Got (Some (negative_int m n)) rest

unfoldable pub int_at : Reader Int
int_at = either_at (symbol symbols.Minus) negative_int_at plain_int_at

unfoldable pub ints_at : Reader (List Int)
ints_at = one_or_more_at int_firsts int_at

unfoldable pub range_at : Reader RangeText
range_at w = int_at w >>= λ a w1. token_at (symbol symbols.DotDot) w1 >>= λ d w2. int_at w2 >>= λ b rest. Got (Some (range_text a b)) rest

unfoldable pub ranges_at : Reader (List RangeText)
ranges_at = one_or_more_at int_firsts range_at

unfoldable pub box_at : Reader BoxTree
box_at w = token_at (word keywords.Box) w >>= λ b w1. ints_at w1 >>= λ os w2. token_at (word keywords.Size) w2 >>= λ c w3. ints_at w3 >>= λ ss rest. Got (Some (box_tree b os ss)) rest

unfoldable pub boxes_at : Reader (List BoxTree)
boxes_at = one_or_more_at (word keywords.Box) box_at

-- ---- shapes, objects, the order and the sides

unfoldable pub names_at : List ℕ → Reader (List PlacedName)
names_at text = listed_at (named_at text)

unfoldable pub shape_at : List ℕ → Reader StatementTree
shape_at text w = token_at (word keywords.Shape) w >>= λ t w1. named_at text w1 >>= λ a w2. boxes_at w2 >>= λ bs w3. ended_at (shape_tree a bs) w3

unfoldable pub attribute_at : List ℕ → Reader AttributeText
attribute_at text w = named_at text w >>= λ a w1. token_at (symbol symbols.Equal) w1 >>= λ e w2. int_at w2 >>= λ v rest. Got (Some (attribute_text a v)) rest

unfoldable pub attribute_list_at : List ℕ → Reader (List AttributeText)
attribute_list_at text = listed_at (attribute_at text)

abbrev pub some_attributes_at : List ℕ → Reader (List AttributeText)
some_attributes_at text w = token_at (word keywords.With) w >>= λ t rest. attribute_list_at text rest

unfoldable pub attributes_at : List ℕ → Reader (List AttributeText)
attributes_at text = opt_at (word keywords.With) (some_attributes_at text) []

-- the word `absent`, by its place
abbrev pub absent_at : Reader ℕ
absent_at w = token_at (word keywords.Absent) w >>= λ t rest. Got (Some t.start) rest

-- a comma and the word, where a comma stands
abbrev pub some_absent_at : Reader (Option ℕ)
some_absent_at = opt_at (symbol symbols.Comma) (λ w. token_at (symbol symbols.Comma) w >>= λ mark w1. absent_at w1 >>= λ place rest. Got (Some (Some place)) rest) None

-- a comma stands here, and a name behind it
abbrev pub next_is_name : List Token → Bool
next_is_name w = next_is (symbol symbols.Comma) w && next_is names (drop 1 w)

-- shapes behind commas, the last of which may be the word
abbrev pub more_shapes_at : List ℕ → Reader ShapeList
more_shapes_at text = many_ended_at (symbol symbols.Comma) names (named_at text) absent_at

-- the shapes of an object, in a text of version 2 or of version 1
abbrev pub names_alone_at : List ℕ → Reader ShapeList
names_alone_at text w = names_at text w >>= λ ss rest. Got (Some (ss, None)) rest

abbrev pub names_or_absent_at : List ℕ → Reader ShapeList
names_or_absent_at text w = named_at text w >>= λ a v. more_shapes_at text v >>= λ r rest. Got (Some (a ∷ r.0, r.1)) rest

unfoldable pub shapes_at : List ℕ → Bool → Reader ShapeList
shapes_at text false = names_alone_at text
shapes_at text true = names_or_absent_at text

-- the range of a coordinate, in a text of version 2 or of version 1
abbrev pub one_piece_at : Reader (List RangeText)
one_piece_at w = range_at w >>= λ r rest. Got (Some (r ∷ [])) rest

unfoldable pub pieces_at : Bool → Reader (List RangeText)
pieces_at false = one_piece_at
pieces_at true = listed_at range_at

unfoldable pub each_pieces_at : Bool → Reader (List (List RangeText))
each_pieces_at second = one_or_more_at int_firsts (pieces_at second)

-- the ranges and the attributes of an object with this name and these shapes
abbrev pub object_rest_at : List ℕ → Bool → PlacedName → ShapeList → Reader StatementTree
object_rest_at text second a ss w =
    token_at (word keywords.At) w >>= λ v w1. each_pieces_at second w1 >>= λ ps w2. attributes_at text w2 >>= λ vs w3. ended_at (object_tree a ss ps vs) w3

unfoldable pub object_at : List ℕ → Bool → Reader StatementTree
object_at text second w =
    token_at (word keywords.Object) w >>= λ t w1. named_at text w1 >>= λ a w2.
    token_at (word keywords.As) w2 >>= λ u w3. shapes_at text second w3 >>= λ ss w4. object_rest_at text second a ss w4

unfoldable pub order_at : List ℕ → Reader StatementTree
order_at text w = token_at (word keywords.Order) w >>= λ t w1. names_at text w1 >>= λ ns w2. ended_at (order_tree t ns) w2

abbrev pub side_at : Reader SideText
side_at w = token_at side_words w >>= λ t rest. Got (Some (side_text t)) rest

unfoldable pub side_list_at : Reader (List SideText)
side_list_at = one_or_more_at side_words side_at

unfoldable pub sides_at : Reader StatementTree
sides_at w = token_at (word keywords.Sides) w >>= λ t w1. side_list_at w1 >>= λ ss w2. ended_at (sides_tree t ss) w2

-- ---- macros and rules

unfoldable pub param_at : List ℕ → Reader ParamText
param_at text w = named_at text w >>= λ a w1. token_at (symbol symbols.Colon) w1 >>= λ c w2. token_at param_words w2 >>= λ t rest. Got (Some (param_text a t)) rest

unfoldable pub param_list_at : List ℕ → Reader (List ParamText)
param_list_at text = listed_at (param_at text)

abbrev pub some_params_at : List ℕ → Reader (List ParamText)
some_params_at text = opt_at names (param_list_at text) []

unfoldable pub params_at : List ℕ → Reader (List ParamText)
params_at text w = token_at (symbol symbols.ParenOpen) w >>= λ t w1. some_params_at text w1 >>= λ ps w2. token_at (symbol symbols.ParenClose) w2 >>= λ u rest. Got (Some ps) rest

abbrev pub means_at : List ℕ → ℕ → Reader BodyTree
means_at text n w = token_at (word keywords.Means) w >>= λ t w1. formula_at text n w1 >>= λ f rest. Got (Some (means f)) rest

abbrev pub equals_at : List ℕ → ℕ → Reader BodyTree
equals_at text n w = token_at (word keywords.Is) w >>= λ t w1. expr_at text n w1 >>= λ e rest. Got (Some (equals e)) rest

unfoldable pub body_at : List ℕ → ℕ → Reader BodyTree
body_at text n = either_at (word keywords.Means) (means_at text n) (equals_at text n)

-- what a macro with this name stands for
abbrev pub macro_rest_at : List ℕ → ℕ → PlacedName → Reader StatementTree
macro_rest_at text n a w = params_at text w >>= λ ps w1. body_at text n w1 >>= λ b w2. ended_at (macro_tree a ps b) w2

unfoldable pub macro_at : List ℕ → ℕ → Reader StatementTree
macro_at text n w = token_at (word keywords.Macro) w >>= λ t w1. named_at text w1 >>= λ a w2. macro_rest_at text n a w2

abbrev pub apart_at : Reader DemandTree
apart_at w = token_at (word keywords.Apart) w >>= λ t rest. Got (Some apart) rest

abbrev pub within_at : Reader DemandTree
within_at w = token_at (word keywords.Within) w >>= λ t w1. ranges_at w1 >>= λ rs rest. Got (Some (within rs)) rest

abbrev pub plain_at : List ℕ → ℕ → Reader DemandTree
plain_at text n w = formula_at text n w >>= λ f rest. Got (Some (plain f)) rest

unfoldable pub demand_at : List ℕ → ℕ → Reader DemandTree
demand_at text n = either_at (word keywords.Apart) apart_at (either_at (word keywords.Within) within_at (plain_at text n))

-- what a rule with this name asks for
abbrev pub rule_rest_at : List ℕ → ℕ → PlacedName → Reader StatementTree
rule_rest_at text n a w = token_at (symbol symbols.Colon) w >>= λ c w1. demand_at text n w1 >>= λ d w2. ended_at (rule_tree a d) w2

unfoldable pub rule_at : List ℕ → ℕ → Reader StatementTree
rule_at text n w = token_at (word keywords.Rule) w >>= λ t w1. named_at text w1 >>= λ a w2. rule_rest_at text n a w2

-- ---- the whole text

unfoldable pub statement_at : List ℕ → ℕ → Bool → Reader StatementTree
statement_at text n second =
    either_at (word keywords.Shape) (shape_at text) (either_at (word keywords.Object) (object_at text second) (either_at (word keywords.Order) (order_at text)
    (either_at (word keywords.Sides) sides_at (either_at (word keywords.Macro) (macro_at text n) (rule_at text n)))))

-- the statements of a text with this version and this number of dimensions
abbrev pub problem_rest_at : List ℕ → ℕ → Bool → Int → Int → Reader ProblemTree
problem_rest_at text n second v d w =
    many_at statement_firsts (statement_at text n second) w >>= λ ss w1. token_at (word keywords.End) w1 >>= λ e rest. Got (Some (record { version = v; dims = d; statements = ss })) rest

unfoldable pub problem_at : List ℕ → ℕ → Reader ProblemTree
problem_at text n w =
    token_at (word keywords.Geost) w >>= λ a w1. token_at numbers w1 >>= λ v w2.
    token_at (word keywords.Dims) w2 >>= λ b w3. token_at numbers w3 >>= λ d w4. problem_rest_at text n (is_second v) (plain_int v) (plain_int d) w4
