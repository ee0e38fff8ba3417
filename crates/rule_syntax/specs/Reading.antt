-- Reading the grammar from the left: one definition for each language, of the same form.
use Rattle.std.specs.Prelude.{ℕ, zero, suc, List, [], ◌∷◌, Option, Some, None}
use Rattle.geo_tokens.specs.declared.token.Token.{Token}
use Rattle.geo_tokens.specs.declared.token.Keyword.TheVariants as keywords
use Rattle.geo_tokens.specs.declared.token.Sym.TheVariants as syms
use Rattle.geo_tokens.specs.Class.{number_in}
use Rattle.geo_tokens.specs.Words.{Kinds, names, numbers, word, symbol}
use Rattle.geo_tokens.specs.Reading.{Read, Got, ◌>>=◌, token_at, cut_at, either_at, opt_at, many_at, chain_at, placed_at}
use Rattle.rule_syntax.specs.declared.tree.PlacedName.{PlacedName}
use Rattle.rule_syntax.specs.declared.tree.Rel.{Rel}
use Rattle.rule_syntax.specs.declared.tree.QuantKind.{QuantKind}
use Rattle.rule_syntax.specs.Marks.{words, symbols, rels, product_marks, quantifiers, factor_firsts}
use Rattle.rule_syntax.specs.Tree.{ExprTree, number, field, param, shape_number, negative, value_call, SumTree, ProductTree, times, ArgumentTree, argument, arguments, CollTree, all_objects, listed, boxes_of, FormulaTree, truth, falsehood, negation, comparison, quantified, formula_call}
use Rattle.rule_syntax.specs.Grammar.{name_in, rel_in, each_in, count_in, sum_step_in, division_in, extreme_in, sum_of, product_of, and_of, or_of, implication_of, equivalence_of}

abbrev pub Reader : Type 0 → Type 0
Reader A = List Token → Read A

-- ---- expressions

abbrev pub named_at : List ℕ → Reader PlacedName
named_at text w = token_at names w >>= λ t rest. Got (Some (name_in text t)) rest

abbrev pub number_at : Reader ExprTree
number_at w = token_at numbers w >>= λ t rest. Got (Some (number t.start (number_in t.kind))) rest

-- a dot and a name behind it
abbrev pub field_at : List ℕ → PlacedName → Reader ExprTree
field_at text a w = token_at (symbol syms.Dot) w >>= λ d rest. named_at text rest >>= λ b last. Got (Some (field a d.start b)) last

abbrev pub variable_at : List ℕ → Reader ExprTree
variable_at text w = named_at text w >>= λ a rest. opt_at (symbol syms.Dot) (field_at text a) (param a) rest

abbrev pub shape_number_at : List ℕ → Reader ExprTree
shape_number_at text w = token_at (word keywords.Shape) w >>= λ t rest. named_at text rest >>= λ a last. Got (Some (shape_number t.start a)) last

abbrev pub negative_at : Reader ExprTree → Reader ExprTree
negative_at inner w = token_at (symbol syms.Minus) w >>= λ t rest. inner rest >>= λ e last. Got (Some (negative t.start e)) last

abbrev pub parens_at : Reader ExprTree → Reader ExprTree
parens_at inner w = token_at (symbol syms.ParenOpen) w >>= λ t rest. inner rest >>= λ e after. token_at (symbol syms.ParenClose) after >>= λ u last. Got (Some e) last

-- an expression as an argument, and one behind a comma
abbrev pub argument_at : Reader ExprTree → Reader ArgumentTree
argument_at inner = placed_at inner argument

abbrev pub next_argument_at : Reader ExprTree → Reader ArgumentTree
next_argument_at inner w = token_at (symbol syms.Comma) w >>= λ mark rest. argument_at inner rest

abbrev pub some_arguments_at : Reader ExprTree → Reader (List ArgumentTree)
some_arguments_at inner w = chain_at (symbol syms.Comma) (argument_at inner) w >>= λ c rest. Got (Some (c.0 ∷ c.1)) rest

abbrev pub argument_list_at : Reader ExprTree → Reader (List ArgumentTree)
argument_list_at inner = opt_at factor_firsts (some_arguments_at inner) []

abbrev pub args_over_at : Reader ExprTree → Reader (List ArgumentTree)
args_over_at inner w = token_at (symbol syms.ParenOpen) w >>= λ t rest. argument_list_at inner rest >>= λ es after. token_at (symbol syms.ParenClose) after >>= λ u last. Got (Some es) last

abbrev pub pair_at : Reader ExprTree → Reader (ExprTree × ExprTree)
pair_at inner w = token_at (symbol syms.ParenOpen) w >>= λ t v. inner v >>= λ a x. token_at (symbol syms.Comma) x >>= λ c y. inner y >>= λ b z. token_at (symbol syms.ParenClose) z >>= λ u last. Got (Some (a, b)) last

abbrev pub value_call_at : List ℕ → Reader (List ArgumentTree) → Reader ExprTree
value_call_at text args w = token_at (symbol syms.Dollar) w >>= λ t rest. named_at text rest >>= λ a after. args after >>= λ es last. Got (Some (value_call t.start a (arguments es))) last

abbrev pub extreme_at : Reader (ExprTree × ExprTree) → Reader ExprTree
extreme_at pair w = token_at (words keywords.Min keywords.Max) w >>= λ t rest. pair rest >>= λ p last. Got (Some (extreme_in t.kind t.start p.0 p.1)) last

abbrev pub factor_over_at : List ℕ → Reader ExprTree → Reader ExprTree → Reader (List ArgumentTree) → Reader (ExprTree × ExprTree) → Reader ExprTree
factor_over_at text neg parens args pair =
    either_at numbers number_at (either_at names (variable_at text) (either_at (word keywords.Shape) (shape_number_at text)
    (either_at (symbol syms.Minus) neg (either_at (symbol syms.ParenOpen) parens (either_at (symbol syms.Dollar) (value_call_at text args) (extreme_at pair))))))

abbrev pub times_at : Reader ExprTree → Reader ProductTree
times_at factor w = token_at (symbol syms.Star) w >>= λ t rest. factor rest >>= λ e last. Got (Some (times e)) last

abbrev pub division_at : Reader ProductTree
division_at w = token_at (words keywords.Div keywords.Mod) w >>= λ t rest. token_at numbers rest >>= λ m last. Got (Some (division_in t.kind m.start (number_in m.kind))) last

abbrev pub product_step_at : Reader ExprTree → Reader ProductTree
product_step_at factor = either_at (symbol syms.Star) (times_at factor) division_at

abbrev pub term_over_at : Reader ExprTree → Reader ExprTree
term_over_at factor = placed_at {A = ExprTree × List ProductTree} (λ w. factor w >>= λ a rest. many_at product_marks (product_step_at factor) rest >>= λ others last. Got (Some (a, others)) last) product_of

abbrev pub sum_step_at : Reader ExprTree → Reader SumTree
sum_step_at term w = token_at (symbols syms.Plus syms.Minus) w >>= λ t rest. term rest >>= λ e last. Got (Some (sum_step_in t.kind e)) last

abbrev pub sum_over_at : Reader ExprTree → Reader ExprTree
sum_over_at term = placed_at {A = ExprTree × List SumTree} (λ w. term w >>= λ a rest. many_at (symbols syms.Plus syms.Minus) (sum_step_at term) rest >>= λ others last. Got (Some (a, others)) last) sum_of

unfoldable pub factor_at : List ℕ → ℕ → Reader ExprTree
factor_at text zero = factor_over_at text (cut_at (symbol syms.Minus)) (cut_at (symbol syms.ParenOpen)) (cut_at (symbol syms.ParenOpen)) (cut_at (symbol syms.ParenOpen))
factor_at text (suc n) =
    factor_over_at text (negative_at (factor_at text n)) (parens_at (sum_over_at (term_over_at (factor_at text n)))) (args_over_at (sum_over_at (term_over_at (factor_at text n)))) (pair_at (sum_over_at (term_over_at (factor_at text n))))

unfoldable pub term_at : List ℕ → ℕ → Reader ExprTree
term_at text n = term_over_at (factor_at text n)

unfoldable pub expr_at : List ℕ → ℕ → Reader ExprTree
expr_at text n = sum_over_at (term_at text n)

unfoldable pub args_at : List ℕ → ℕ → Reader (List ArgumentTree)
args_at text zero = cut_at (symbol syms.ParenOpen)
args_at text (suc n) = args_over_at (expr_at text n)

-- ---- formulas

abbrev pub true_at : Reader FormulaTree
true_at w = token_at (word keywords.True) w >>= λ t rest. Got (Some (truth t.start)) rest

abbrev pub false_at : Reader FormulaTree
false_at w = token_at (word keywords.False) w >>= λ t rest. Got (Some (falsehood t.start)) rest

abbrev pub not_at : Reader FormulaTree → Reader FormulaTree
not_at inner w = token_at (word keywords.Not) w >>= λ t rest. inner rest >>= λ f last. Got (Some (negation t.start f)) last

abbrev pub brackets_at : Reader FormulaTree → Reader FormulaTree
brackets_at inner w = token_at (symbol syms.BracketOpen) w >>= λ t rest. inner rest >>= λ f after. token_at (symbol syms.BracketClose) after >>= λ u last. Got (Some f) last

abbrev pub formula_call_at : List ℕ → Reader (List ArgumentTree) → Reader FormulaTree
formula_call_at text args w = token_at (symbol syms.At) w >>= λ t rest. named_at text rest >>= λ a after. args after >>= λ es last. Got (Some (formula_call t.start a (arguments es))) last

abbrev pub each_at : Reader (ℕ × QuantKind)
each_at w = token_at (words keywords.ForAll keywords.Exists) w >>= λ t rest. Got (Some (t.start, each_in t.kind)) rest

abbrev pub count_at : Reader (ℕ × QuantKind)
count_at w = token_at (words keywords.AtLeast keywords.AtMost) w >>= λ t rest. token_at numbers rest >>= λ m last. Got (Some (t.start, count_in t.kind (number_in m.kind))) last

abbrev pub quantifier_at : Reader (ℕ × QuantKind)
quantifier_at = either_at (words keywords.ForAll keywords.Exists) each_at count_at

-- a name behind a comma
abbrev pub next_name_at : List ℕ → Reader PlacedName
next_name_at text w = token_at (symbol syms.Comma) w >>= λ mark rest. named_at text rest

abbrev pub name_list_at : List ℕ → Reader CollTree
name_list_at text w = token_at (symbol syms.ParenOpen) w >>= λ t rest. chain_at (symbol syms.Comma) (named_at text) rest >>= λ c after. token_at (symbol syms.ParenClose) after >>= λ u last. Got (Some (listed (c.0 ∷ c.1))) last

abbrev pub objects_at : List ℕ → Reader CollTree
objects_at text w = token_at (word keywords.Objects) w >>= λ t rest. opt_at (symbol syms.ParenOpen) (name_list_at text) all_objects rest

abbrev pub boxes_at : List ℕ → Reader CollTree
boxes_at text w = token_at (word keywords.Boxes) w >>= λ t rest. token_at (word keywords.Of) rest >>= λ u after. named_at text after >>= λ a last. Got (Some (boxes_of a)) last

abbrev pub collection_at : List ℕ → Reader CollTree
collection_at text = either_at (word keywords.Objects) (objects_at text) (boxes_at text)

abbrev pub quantified_at : List ℕ → Reader FormulaTree → Reader FormulaTree
quantified_at text inner w = quantifier_at w >>= λ q v. named_at text v >>= λ a x. token_at (word keywords.In) x >>= λ t y. collection_at text y >>= λ c z. token_at (symbol syms.Colon) z >>= λ u r. inner r >>= λ f last. Got (Some (quantified q.0 q.1 a c f)) last

abbrev pub comparison_at : Reader ExprTree → Reader FormulaTree
comparison_at expr = placed_at {A = ExprTree × Rel × ExprTree} (λ w. expr w >>= λ a rest. token_at rels rest >>= λ t after. expr after >>= λ b last. Got (Some (a, rel_in t.kind, b)) last) (λ p x. comparison p x.0 x.1 x.2)

abbrev pub unary_over_at : List ℕ → Reader FormulaTree → Reader FormulaTree → Reader (List ArgumentTree) → Reader FormulaTree → Reader ExprTree → Reader FormulaTree
unary_over_at text not brackets args quant expr =
    either_at (word keywords.True) true_at (either_at (word keywords.False) false_at (either_at (word keywords.Not) not (either_at (symbol syms.BracketOpen) brackets
    (either_at (symbol syms.At) (formula_call_at text args) (either_at quantifiers quant (comparison_at expr))))))

abbrev pub conjunction_over_at : Reader FormulaTree → Reader FormulaTree
conjunction_over_at unary = placed_at (chain_at (word keywords.And) unary) and_of

abbrev pub disjunction_over_at : Reader FormulaTree → Reader FormulaTree
disjunction_over_at conj = placed_at (chain_at (word keywords.Or) conj) or_of

-- a mark and what stands behind it
abbrev pub some_behind_at : Kinds → Reader FormulaTree → Reader (Option FormulaTree)
some_behind_at mark inner w = token_at mark w >>= λ t rest. inner rest >>= λ g last. Got (Some (Some g)) last

abbrev pub behind_at : Kinds → Reader FormulaTree → Reader (Option FormulaTree)
behind_at mark inner = opt_at mark (some_behind_at mark inner) None

abbrev pub implication_over_at : Reader FormulaTree → Reader FormulaTree
implication_over_at disj = placed_at {A = FormulaTree × Option FormulaTree} (λ w. disj w >>= λ f rest. behind_at (word keywords.Implies) disj rest >>= λ g last. Got (Some (f, g)) last) implication_of

abbrev pub equivalence_over_at : Reader FormulaTree → Reader FormulaTree
equivalence_over_at imp = placed_at {A = FormulaTree × Option FormulaTree} (λ w. imp w >>= λ f rest. behind_at (word keywords.Iff) imp rest >>= λ g last. Got (Some (f, g)) last) equivalence_of

abbrev pub formula_over_at : Reader FormulaTree → Reader FormulaTree
formula_over_at unary = equivalence_over_at (implication_over_at (disjunction_over_at (conjunction_over_at unary)))

unfoldable pub unary_at : List ℕ → ℕ → Reader FormulaTree
unary_at text zero = unary_over_at text (cut_at (word keywords.Not)) (cut_at (symbol syms.BracketOpen)) (args_at text zero) (cut_at quantifiers) (expr_at text zero)
unary_at text (suc n) = unary_over_at text (not_at (unary_at text n)) (brackets_at (formula_over_at (unary_at text n))) (args_at text (suc n)) (quantified_at text (unary_at text n)) (expr_at text (suc n))

unfoldable pub conjunction_at : List ℕ → ℕ → Reader FormulaTree
conjunction_at text n = conjunction_over_at (unary_at text n)

unfoldable pub disjunction_at : List ℕ → ℕ → Reader FormulaTree
disjunction_at text n = disjunction_over_at (conjunction_at text n)

unfoldable pub implication_at : List ℕ → ℕ → Reader FormulaTree
implication_at text n = implication_over_at (disjunction_at text n)

unfoldable pub formula_at : List ℕ → ℕ → Reader FormulaTree
formula_at text n = equivalence_over_at (implication_at text n)

-- an 'and' and the unary behind it, an 'or' and the conjunction behind it
abbrev pub and_unary_at : List ℕ → ℕ → Reader FormulaTree
and_unary_at text n w = token_at (word keywords.And) w >>= λ mark rest. unary_at text n rest

abbrev pub or_conjunction_at : List ℕ → ℕ → Reader FormulaTree
or_conjunction_at text n w = token_at (word keywords.Or) w >>= λ mark rest. conjunction_at text n rest
