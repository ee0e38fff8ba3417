-- The places of the numbers behind `div` and `mod` that are 0, in expressions and formulas.
use Rattle.std.specs.Prelude.{ℕ, List, [], ◌∷◌, ◌++◌, ◌==◌, if◌then◌else◌, Option, Some, None, min}
use Rattle.rule_syntax.specs.Tree.{ExprTree, number, field, param, shape_number, negative, sum, product, least, greatest, value_call, SumTree, plus, minus, SumTrees, no_sums, a_sum, ProductTree, times, over, modulo, ProductTrees, no_products, a_product, ArgumentTree, argument, ArgumentTrees, no_arguments, an_argument, FormulaTree, truth, falsehood, negation, all_of, any_of, implication, equivalence, comparison, quantified, formula_call, FormulaTrees, no_formulas, a_formula}
use Rattle.problem_data.specs.Tree.{BodyTree, means, equals}

abbrev pub zero_at : ℕ → ℕ → List ℕ
zero_at place n = if n == 0 then place ∷ [] else []

abbrev mutual
  pub expr_zeros : ExprTree → List ℕ
  expr_zeros (number p n) = []
  expr_zeros (field a d b) = []
  expr_zeros (param a) = []
  expr_zeros (shape_number p a) = []
  expr_zeros (negative p e) = expr_zeros e
  expr_zeros (sum p e ss) = expr_zeros e ++ sums_zeros ss
  expr_zeros (product p e ss) = expr_zeros e ++ products_zeros ss
  expr_zeros (least p a b) = expr_zeros a ++ expr_zeros b
  expr_zeros (greatest p a b) = expr_zeros a ++ expr_zeros b
  expr_zeros (value_call p a es) = arguments_zeros es

  pub sums_zeros : SumTrees → List ℕ
  sums_zeros no_sums = []
  sums_zeros (a_sum s ss) = sum_zeros s ++ sums_zeros ss

  pub sum_zeros : SumTree → List ℕ
  sum_zeros (plus e) = expr_zeros e
  sum_zeros (minus e) = expr_zeros e

  pub products_zeros : ProductTrees → List ℕ
  products_zeros no_products = []
  products_zeros (a_product s ss) = product_zeros s ++ products_zeros ss

  pub product_zeros : ProductTree → List ℕ
  product_zeros (times e) = expr_zeros e
  product_zeros (over p n) = zero_at p n
  product_zeros (modulo p n) = zero_at p n

  pub arguments_zeros : ArgumentTrees → List ℕ
  arguments_zeros no_arguments = []
  arguments_zeros (an_argument a others) = argument_zeros a ++ arguments_zeros others

  pub argument_zeros : ArgumentTree → List ℕ
  argument_zeros (argument p e) = expr_zeros e

abbrev mutual
  pub formula_zeros : FormulaTree → List ℕ
  formula_zeros (truth p) = []
  formula_zeros (falsehood p) = []
  formula_zeros (negation p f) = formula_zeros f
  formula_zeros (all_of p fs) = formulas_zeros fs
  formula_zeros (any_of p fs) = formulas_zeros fs
  formula_zeros (implication p f g) = formula_zeros f ++ formula_zeros g
  formula_zeros (equivalence p f g) = formula_zeros f ++ formula_zeros g
  formula_zeros (comparison p a r b) = expr_zeros a ++ expr_zeros b
  formula_zeros (quantified p k v c f) = formula_zeros f
  formula_zeros (formula_call p a es) = arguments_zeros es

  pub formulas_zeros : FormulaTrees → List ℕ
  formulas_zeros no_formulas = []
  formulas_zeros (a_formula f fs) = formula_zeros f ++ formulas_zeros fs

abbrev pub body_zeros : BodyTree → List ℕ
body_zeros (means f) = formula_zeros f
body_zeros (equals e) = expr_zeros e

-- the lesser of two, where there are any
abbrev pub lesser : Option ℕ → Option ℕ → Option ℕ
lesser None b = b
lesser (Some m) None = Some m
lesser (Some m) (Some n) = Some (min m n)

-- the least of a list, if it has any
abbrev pub least_in : List ℕ → Option ℕ
least_in [] = None
least_in (n ∷ ns) = lesser (Some n) (least_in ns)
