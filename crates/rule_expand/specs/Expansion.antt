-- Rules without their macros: the same cases as the meaning, with trees in place of values. A macro is a function of what its
-- arguments become.
use Rattle.std.specs.Prelude.{ℕ, zero, suc, ◌+◌, ◌==◌, if◌then◌else◌, List, [], ◌∷◌, length}
use Rattle.std.specs.Option.{option_map_or}
use Rattle.std.specs.Str.{bytes_eq}
use Rattle.rule_syntax.specs.Tree.{ExprTree, number, field, param, shape_number, negative, sum, product, least, greatest, value_call, SumTree, plus, minus, SumTrees, no_sums, a_sum, ProductTree, times, over, modulo, ProductTrees, no_products, a_product, ArgumentTree, argument, ArgumentTrees, no_arguments, an_argument, CollTree, all_objects, listed, boxes_of, FormulaTree, truth, falsehood, negation, all_of, any_of, implication, equivalence, comparison, quantified, formula_call, FormulaTrees, no_formulas, a_formula}
use Rattle.problem_data.specs.Problem.{ParamData, ProblemData}
use Rattle.problem_data.specs.Tree.{BodyTree, means, equals}
use Rattle.problem_data.specs.Value.{object_position, shape_position, macro_position}
use Rattle.problem_data.specs.Truth.{listed_objects, macro_of}
use Rattle.rule_expand.specs.declared.plain.Subject.{Subject}
use Rattle.rule_expand.specs.declared.plain.Subject.TheVariants as subjects
use Rattle.rule_expand.specs.Plain as plain
use Rattle.rule_expand.specs.Plain.{PlainExprTree, PlainSumTree, PlainSums, PlainProductTree, PlainProducts, PlainCollTree, PlainFormulaTree, PlainFormulas}

-- what a name becomes
pub data Meant : Type 0 where
  an_expr : PlainExprTree → Meant
  a_subject : Subject → Meant

pub record MeantName : Type 0 where
  pub name : List ℕ
  pub meant : Meant

-- variables and parameters in sight, the innermost first
abbrev pub Subst : Type 0
Subst = List MeantName

abbrev pub give : List ℕ → Meant → Subst → Subst
give n m sub = record { name = n; meant = m } ∷ sub

-- a name: the innermost in sight, else the object of that name
abbrev pub meant_by : ProblemData → List ℕ → Subst → Meant
meant_by p n [] = option_map_or (λ o. a_subject (subjects.Object o)) (object_position p n) (an_expr (plain.number 0))
meant_by p n (b ∷ outer) = if bytes_eq n b.name then b.meant else meant_by p n outer

abbrev pub as_expr : Meant → PlainExprTree
as_expr (an_expr e) = e
as_expr (a_subject s) = plain.number 0

abbrev pub field_of : Meant → List ℕ → PlainExprTree
field_of (an_expr e) f = plain.number 0
field_of (a_subject s) f = plain.field s f

abbrev pub shape_expr : ProblemData → List ℕ → PlainExprTree
shape_expr p n = option_map_or (λ s. plain.shape_number s) (shape_position p n) (plain.number 0)

-- how many quantifiers a formula has
abbrev mutual
  pub binders : PlainFormulaTree → ℕ
  binders plain.truth = 0
  binders plain.falsehood = 0
  binders (plain.negation f) = binders f
  binders (plain.all_of fs) = binders_in fs
  binders (plain.any_of fs) = binders_in fs
  binders (plain.implication f g) = binders f + binders g
  binders (plain.equivalence f g) = binders f + binders g
  binders (plain.comparison a rel b) = 0
  binders (plain.quantified kind v coll f) = 1 + binders f

  pub binders_in : PlainFormulas → ℕ
  binders_in plain.no_formulas = 0
  binders_in (plain.a_formula f rest) = binders f + binders_in rest

-- what the macros in sight become, by their positions in file order
pub record Expansions : Type 0 where
  pub number : ℕ → List Meant → PlainExprTree
  pub truth_of : ℕ → List Meant → ℕ → PlainFormulaTree

abbrev mutual
  pub meant : Expansions → ProblemData → ExprTree → Subst → Meant
  meant x p (number place n) sub = an_expr (plain.number n)
  meant x p (field a dot f) sub = an_expr (field_of (meant_by p a.name sub) f.name)
  meant x p (param a) sub = meant_by p a.name sub
  meant x p (shape_number place a) sub = an_expr (shape_expr p a.name)
  meant x p (negative place e) sub = an_expr (plain.negative (as_expr (meant x p e sub)))
  meant x p (sum place e steps) sub = an_expr (plain.sum (as_expr (meant x p e sub)) (sums_expanded x p steps sub))
  meant x p (product place e steps) sub = an_expr (plain.product (as_expr (meant x p e sub)) (products_expanded x p steps sub))
  meant x p (least place a b) sub = an_expr (plain.least (as_expr (meant x p a sub)) (as_expr (meant x p b sub)))
  meant x p (greatest place a b) sub = an_expr (plain.greatest (as_expr (meant x p a sub)) (as_expr (meant x p b sub)))
  meant x p (value_call place m args) sub = an_expr (option_map_or (λ k. x.number k (arguments_meant x p args sub)) (macro_position p m.name) (plain.number 0))

  pub sum_expanded : Expansions → ProblemData → SumTree → Subst → PlainSumTree
  sum_expanded x p (plus e) sub = plain.plus (as_expr (meant x p e sub))
  sum_expanded x p (minus e) sub = plain.minus (as_expr (meant x p e sub))

  pub sums_expanded : Expansions → ProblemData → SumTrees → Subst → PlainSums
  sums_expanded x p no_sums sub = plain.no_sums
  sums_expanded x p (a_sum s rest) sub = plain.a_sum (sum_expanded x p s sub) (sums_expanded x p rest sub)

  pub product_expanded : Expansions → ProblemData → ProductTree → Subst → PlainProductTree
  product_expanded x p (times e) sub = plain.times (as_expr (meant x p e sub))
  product_expanded x p (over place n) sub = plain.over n
  product_expanded x p (modulo place n) sub = plain.modulo n

  pub products_expanded : Expansions → ProblemData → ProductTrees → Subst → PlainProducts
  products_expanded x p no_products sub = plain.no_products
  products_expanded x p (a_product s rest) sub = plain.a_product (product_expanded x p s sub) (products_expanded x p rest sub)

  pub argument_meant : Expansions → ProblemData → ArgumentTree → Subst → Meant
  argument_meant x p (argument place e) sub = meant x p e sub

  pub arguments_meant : Expansions → ProblemData → ArgumentTrees → Subst → List Meant
  arguments_meant x p no_arguments sub = []
  arguments_meant x p (an_argument a rest) sub = argument_meant x p a sub ∷ arguments_meant x p rest sub

-- an expression without its macros
abbrev pub expr_expanded : Expansions → ProblemData → ExprTree → Subst → PlainExprTree
expr_expanded x p e sub = as_expr (meant x p e sub)

-- the boxes of what has none are none
abbrev pub boxes_expanded : Meant → PlainCollTree
boxes_expanded (an_expr e) = plain.listed []
boxes_expanded (a_subject s) = plain.boxes_of s

abbrev pub coll_expanded : ProblemData → CollTree → Subst → PlainCollTree
coll_expanded p all_objects sub = plain.all_objects
coll_expanded p (listed ns) sub = plain.listed (listed_objects p ns)
coll_expanded p (boxes_of a) sub = boxes_expanded (meant_by p a.name sub)

abbrev mutual
  -- the last argument is the first number that is free for a variable
  pub formula_expanded : Expansions → ProblemData → FormulaTree → Subst → ℕ → PlainFormulaTree
  formula_expanded x p (truth place) sub k = plain.truth
  formula_expanded x p (falsehood place) sub k = plain.falsehood
  formula_expanded x p (negation place f) sub k = plain.negation (formula_expanded x p f sub k)
  formula_expanded x p (all_of place fs) sub k = plain.all_of (formulas_expanded x p fs sub k)
  formula_expanded x p (any_of place fs) sub k = plain.any_of (formulas_expanded x p fs sub k)
  formula_expanded x p (implication place f g) sub k = plain.implication (formula_expanded x p f sub k) (formula_expanded x p g sub (k + binders (formula_expanded x p f sub k)))
  formula_expanded x p (equivalence place f g) sub k = plain.equivalence (formula_expanded x p f sub k) (formula_expanded x p g sub (k + binders (formula_expanded x p f sub k)))
  formula_expanded x p (comparison place a rel b) sub k = plain.comparison (expr_expanded x p a sub) rel (expr_expanded x p b sub)
  formula_expanded x p (quantified place kind v coll f) sub k =
      plain.quantified kind k (coll_expanded p coll sub) (formula_expanded x p f (give v.name (a_subject (subjects.Variable k)) sub) (k + 1))
  formula_expanded x p (formula_call place m args) sub k = option_map_or (λ n. x.truth_of n (arguments_meant x p args sub) k) (macro_position p m.name) plain.falsehood

  pub formulas_expanded : Expansions → ProblemData → FormulaTrees → Subst → ℕ → PlainFormulas
  formulas_expanded x p no_formulas sub k = plain.no_formulas
  formulas_expanded x p (a_formula f rest) sub k =
      plain.a_formula (formula_expanded x p f sub k) (formulas_expanded x p rest sub (k + binders (formula_expanded x p f sub k)))

-- the parameters with what their arguments become, and nothing else
abbrev pub give_all : List ParamData → List Meant → Subst
give_all [] ms = []
give_all (q ∷ params) [] = []
give_all (q ∷ params) (m ∷ ms) = give q.name m (give_all params ms)

abbrev pub body_expr : Expansions → ProblemData → BodyTree → Subst → PlainExprTree
body_expr x p (means f) sub = plain.number 0
body_expr x p (equals e) sub = expr_expanded x p e sub

abbrev pub body_formula : Expansions → ProblemData → BodyTree → Subst → ℕ → PlainFormulaTree
body_formula x p (means f) sub k = formula_expanded x p f sub k
body_formula x p (equals e) sub k = plain.falsehood

-- what the first n macros become
abbrev pub expansions_of : ProblemData → ℕ → Expansions
expansions_of p zero = record { number = λ k ms. plain.number 0; truth_of = λ k ms v. plain.falsehood }
expansions_of p (suc n) = record {
  number = λ k ms. if k == n then body_expr (expansions_of p n) p (macro_of p n).body (give_all (macro_of p n).params ms) else (expansions_of p n).number k ms;
  truth_of = λ k ms v. if k == n then body_formula (expansions_of p n) p (macro_of p n).body (give_all (macro_of p n).params ms) v else (expansions_of p n).truth_of k ms v;
}

-- a rule's formula without its macros
abbrev pub expanded : ProblemData → FormulaTree → PlainFormulaTree
expanded p f = formula_expanded (expansions_of p (length p.macros)) p f [] 0
