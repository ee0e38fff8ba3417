-- The mistakes of expressions and formulas: at which place what is wrong with a name. A list of mistakes stands for their set.
use Rattle.std.specs.Prelude.{ℕ, ◌+◌, ◌==◌, Bool, true, false, not, ◌||◌, if◌then◌else◌, List, [], ◌∷◌, ◌++◌, length, Option, Some, None, is_some}
use Rattle.std.specs.Option.{option_map_or}
use Rattle.std.specs.List.{list_any}
use Rattle.std.specs.Str.{bytes_eq}
use Rattle.rule_syntax.specs.declared.tree.PlacedName.{PlacedName}
use Rattle.rule_syntax.specs.Tree.{ExprTree, number, field, param, shape_number, negative, sum, product, least, greatest, value_call, SumTree, plus, minus, SumTrees, no_sums, a_sum, ProductTree, times, over, modulo, ProductTrees, no_products, a_product, ArgumentTree, argument, ArgumentTrees, no_arguments, an_argument, CollTree, all_objects, listed, boxes_of, FormulaTree, truth, falsehood, negation, all_of, any_of, implication, equivalence, comparison, quantified, formula_call, FormulaTrees, no_formulas, a_formula}
use Rattle.problem_data.specs.declared.tree.ParamKind.{ParamKind}
use Rattle.problem_data.specs.declared.tree.ParamKind.TheVariants as kinds
use Rattle.problem_data.specs.Problem.{ParamData, MacroData, DemandData, apart, within, plain, RuleData, ProblemData}
use Rattle.problem_data.specs.Tree.{BodyTree, means, equals}
use Rattle.problem_data.specs.Value.{object_position, shape_position}
use Rattle.rule_names.specs.declared.mistake.Mistake.{Mistake}
use Rattle.rule_names.specs.declared.mistake.Flaw.TheVariants.{UnknownName, RepeatedName, WrongKind, WrongCount, UnknownField}
use Rattle.rule_names.specs.Mistakes.{mistake, mistake_if}
use Rattle.rule_names.specs.Sight.{Sight, binding, kind_of, same_kind, macro_called, is_object_field, is_box_field}

-- ---- single names

-- a field of what a name stands for
abbrev pub field_of_kind : ProblemData → Option ParamKind → PlacedName → ℕ → PlacedName → List Mistake
field_of_kind p None a dot f = mistake a.place UnknownName ∷ []
field_of_kind p (Some kinds.Int) a dot f = mistake dot WrongKind ∷ []
field_of_kind p (Some kinds.Object) a dot f = mistake_if (not (is_object_field p f.name)) f.place UnknownField
field_of_kind p (Some kinds.Box) a dot f = mistake_if (not (is_box_field p f.name)) f.place UnknownField

abbrev pub field_mistakes : ProblemData → Sight → PlacedName → ℕ → PlacedName → List Mistake
field_mistakes p s a dot f = field_of_kind p (kind_of p s a.name) a dot f

-- a bare name: as an argument it may be of any kind here, else it has to be a number
abbrev pub bare_mistakes : ProblemData → Sight → Bool → PlacedName → List Mistake
bare_mistakes p s any_kind a = option_map_or (λ k. mistake_if (not (any_kind || same_kind k kinds.Int)) a.place WrongKind) (kind_of p s a.name) (mistake a.place UnknownName ∷ [])

-- a name of a shape
abbrev pub shape_mistakes : ProblemData → PlacedName → List Mistake
shape_mistakes p a = mistake_if (not (is_some (shape_position p a.name))) a.place UnknownName

-- ---- calls

-- the kind of an argument: that of what a bare name stands for, if it stands for something; any other expression is a number
abbrev pub kind_given : ProblemData → Sight → ExprTree → Option ParamKind
kind_given p s (number place n) = Some kinds.Int
kind_given p s (field a dot f) = Some kinds.Int
kind_given p s (param a) = kind_of p s a.name
kind_given p s (shape_number place a) = Some kinds.Int
kind_given p s (negative place e) = Some kinds.Int
kind_given p s (sum place e steps) = Some kinds.Int
kind_given p s (product place e steps) = Some kinds.Int
kind_given p s (least place a b) = Some kinds.Int
kind_given p s (greatest place a b) = Some kinds.Int
kind_given p s (value_call place m args) = Some kinds.Int

-- an argument that is not of its parameter's kind, at its first token
abbrev pub passed_mistakes : ProblemData → Sight → ParamData → ArgumentTree → List Mistake
passed_mistakes p s q (argument place e) = option_map_or (λ k. mistake_if (not (same_kind k q.kind)) place WrongKind) (kind_given p s e) []

abbrev pub all_passed : ProblemData → Sight → List ParamData → ArgumentTrees → List Mistake
all_passed p s [] args = []
all_passed p s (q ∷ params) no_arguments = []
all_passed p s (q ∷ params) (an_argument a rest) = passed_mistakes p s q a ++ all_passed p s params rest

abbrev pub argument_count : ArgumentTrees → ℕ
argument_count no_arguments = 0
argument_count (an_argument a rest) = 1 + argument_count rest

abbrev pub is_formula : BodyTree → Bool
is_formula (means f) = true
is_formula (equals e) = false

abbrev pub differs : Bool → Bool → Bool
differs a b = if a then not b else b

-- a call of a macro, by a mark that asks for a formula or for a number
abbrev pub call_of_macro : ProblemData → Sight → Bool → ℕ → ArgumentTrees → MacroData → List Mistake
call_of_macro p s formula place args d =
    mistake_if (differs formula (is_formula d.body)) place WrongKind ++ mistake_if (not (argument_count args == length d.params)) place WrongCount ++ all_passed p s d.params args

-- a call in a statement whose name stands at n
abbrev pub call_mistakes : ProblemData → ℕ → Sight → Bool → ℕ → PlacedName → ArgumentTrees → List Mistake
call_mistakes p n s formula place m args = option_map_or (call_of_macro p s formula place args) (macro_called p n m.name) (mistake m.place UnknownName ∷ [])

-- ---- expressions, in a statement whose name stands at n

abbrev mutual
  -- `any_kind` says that a bare name may be of any kind where the expression stands
  pub expr_mistakes : ProblemData → ℕ → Sight → Bool → ExprTree → List Mistake
  expr_mistakes p n s any_kind (number place v) = []
  expr_mistakes p n s any_kind (field a dot f) = field_mistakes p s a dot f
  expr_mistakes p n s any_kind (param a) = bare_mistakes p s any_kind a
  expr_mistakes p n s any_kind (shape_number place a) = shape_mistakes p a
  expr_mistakes p n s any_kind (negative place e) = expr_mistakes p n s false e
  expr_mistakes p n s any_kind (sum place e steps) = expr_mistakes p n s false e ++ sums_mistakes p n s steps
  expr_mistakes p n s any_kind (product place e steps) = expr_mistakes p n s false e ++ products_mistakes p n s steps
  expr_mistakes p n s any_kind (least place a b) = expr_mistakes p n s false a ++ expr_mistakes p n s false b
  expr_mistakes p n s any_kind (greatest place a b) = expr_mistakes p n s false a ++ expr_mistakes p n s false b
  expr_mistakes p n s any_kind (value_call place m args) = call_mistakes p n s false place m args ++ arguments_mistakes p n s args

  pub sum_mistakes : ProblemData → ℕ → Sight → SumTree → List Mistake
  sum_mistakes p n s (plus e) = expr_mistakes p n s false e
  sum_mistakes p n s (minus e) = expr_mistakes p n s false e

  pub sums_mistakes : ProblemData → ℕ → Sight → SumTrees → List Mistake
  sums_mistakes p n s no_sums = []
  sums_mistakes p n s (a_sum step rest) = sum_mistakes p n s step ++ sums_mistakes p n s rest

  pub product_mistakes : ProblemData → ℕ → Sight → ProductTree → List Mistake
  product_mistakes p n s (times e) = expr_mistakes p n s false e
  product_mistakes p n s (over place v) = []
  product_mistakes p n s (modulo place v) = []

  pub products_mistakes : ProblemData → ℕ → Sight → ProductTrees → List Mistake
  products_mistakes p n s no_products = []
  products_mistakes p n s (a_product step rest) = product_mistakes p n s step ++ products_mistakes p n s rest

  pub argument_mistakes : ProblemData → ℕ → Sight → ArgumentTree → List Mistake
  argument_mistakes p n s (argument place e) = expr_mistakes p n s true e

  pub arguments_mistakes : ProblemData → ℕ → Sight → ArgumentTrees → List Mistake
  arguments_mistakes p n s no_arguments = []
  arguments_mistakes p n s (an_argument a rest) = argument_mistakes p n s a ++ arguments_mistakes p n s rest

-- ---- what a quantifier ranges over

-- names in `objects ( )`, behind those that stand before them: each is an object's own name, and stands there once
abbrev pub listed_mistakes : ProblemData → List (List ℕ) → List PlacedName → List Mistake
listed_mistakes p before [] = []
listed_mistakes p before (a ∷ rest) =
    mistake_if (not (is_some (object_position p a.name))) a.place UnknownName ++ mistake_if (list_any (bytes_eq a.name) before) a.place RepeatedName ++ listed_mistakes p (before ++ a.name ∷ []) rest

abbrev pub boxes_mistakes : ProblemData → Sight → PlacedName → List Mistake
boxes_mistakes p s a = option_map_or (λ k. mistake_if (not (same_kind k kinds.Object)) a.place WrongKind) (kind_of p s a.name) (mistake a.place UnknownName ∷ [])

abbrev pub coll_mistakes : ProblemData → Sight → CollTree → List Mistake
coll_mistakes p s all_objects = []
coll_mistakes p s (listed names) = listed_mistakes p [] names
coll_mistakes p s (boxes_of a) = boxes_mistakes p s a

-- the kind of the elements
abbrev pub element_kind : CollTree → ParamKind
element_kind all_objects = kinds.Object
element_kind (listed names) = kinds.Object
element_kind (boxes_of a) = kinds.Box

-- ---- formulas, in a statement whose name stands at n

abbrev mutual
  pub formula_mistakes : ProblemData → ℕ → Sight → FormulaTree → List Mistake
  formula_mistakes p n s (truth place) = []
  formula_mistakes p n s (falsehood place) = []
  formula_mistakes p n s (negation place f) = formula_mistakes p n s f
  formula_mistakes p n s (all_of place fs) = formulas_mistakes p n s fs
  formula_mistakes p n s (any_of place fs) = formulas_mistakes p n s fs
  formula_mistakes p n s (implication place f g) = formula_mistakes p n s f ++ formula_mistakes p n s g
  formula_mistakes p n s (equivalence place f g) = formula_mistakes p n s f ++ formula_mistakes p n s g
  formula_mistakes p n s (comparison place a rel b) = expr_mistakes p n s false a ++ expr_mistakes p n s false b
  formula_mistakes p n s (quantified place kind v coll f) = coll_mistakes p s coll ++ formula_mistakes p n (binding v.name (element_kind coll) s) f
  formula_mistakes p n s (formula_call place m args) = call_mistakes p n s true place m args ++ arguments_mistakes p n s args

  pub formulas_mistakes : ProblemData → ℕ → Sight → FormulaTrees → List Mistake
  formulas_mistakes p n s no_formulas = []
  formulas_mistakes p n s (a_formula f rest) = formula_mistakes p n s f ++ formulas_mistakes p n s rest

-- ---- a whole problem

abbrev pub body_mistakes : ProblemData → ℕ → Sight → BodyTree → List Mistake
body_mistakes p n s (means f) = formula_mistakes p n s f
body_mistakes p n s (equals e) = expr_mistakes p n s false e

-- the body of a macro sees its parameters, and calls the macros that are made before it
abbrev pub macros_mistakes : ProblemData → List MacroData → List Mistake
macros_mistakes p [] = []
macros_mistakes p (d ∷ rest) = body_mistakes p d.place d.params d.body ++ macros_mistakes p rest

abbrev pub demand_mistakes : ProblemData → ℕ → DemandData → List Mistake
demand_mistakes p n apart = []
demand_mistakes p n (within ranges) = []
demand_mistakes p n (plain f) = formula_mistakes p n [] f

-- a rule has no parameters, and calls the macros that are made before it
abbrev pub rules_mistakes : ProblemData → List RuleData → List Mistake
rules_mistakes p [] = []
rules_mistakes p (r ∷ rest) = demand_mistakes p r.place r.demand ++ rules_mistakes p rest

-- all mistakes of a problem's macros and rules
abbrev pub mistakes : ProblemData → List Mistake
mistakes p = macros_mistakes p p.macros ++ rules_mistakes p p.rules
