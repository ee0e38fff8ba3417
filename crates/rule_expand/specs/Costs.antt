-- How many steps an expansion takes at most: what ends it.
use Rattle.std.specs.Prelude.{ℕ, zero, suc, ◌+◌, ◌==◌, if◌then◌else◌, List, [], ◌∷◌, sum}
use Rattle.std.specs.Option.{option_map_or}
use Rattle.std.specs.Str.{bytes_eq}
use Rattle.rule_syntax.specs.Tree as tree
use Rattle.rule_syntax.specs.Tree.{ExprTree, SumTree, SumTrees, ProductTree, ProductTrees, ArgumentTree, ArgumentTrees, FormulaTree, FormulaTrees}
use Rattle.problem_data.specs.Problem.{ParamData, ProblemData}
use Rattle.problem_data.specs.Tree.{BodyTree, means, equals}
use Rattle.problem_data.specs.Value.{macro_position}
use Rattle.problem_data.specs.Truth.{macro_of}

pub record NameCost : Type 0 where
  pub name : List ℕ
  pub cost : ℕ

abbrev pub CostEnv : Type 0
CostEnv = List NameCost

abbrev pub price : List ℕ → ℕ → CostEnv → CostEnv
price n k env = record { name = n; cost = k } ∷ env

abbrev pub cost_by : List ℕ → CostEnv → ℕ
cost_by n [] = 0
cost_by n (b ∷ outer) = if bytes_eq n b.name then b.cost else cost_by n outer

-- of a macro, from the costs of its arguments
abbrev pub MacroCosts : Type 0
MacroCosts = ℕ → List ℕ → ℕ

abbrev mutual
  pub cost : MacroCosts → ProblemData → ExprTree → CostEnv → ℕ
  cost c p (tree.number place n) env = 1
  cost c p (tree.field a dot f) env = 1
  cost c p (tree.param a) env = 1 + cost_by a.name env
  cost c p (tree.shape_number place a) env = 1
  cost c p (tree.negative place e) env = 1 + cost c p e env
  cost c p (tree.sum place e steps) env = 1 + cost c p e env + sums_cost c p steps env
  cost c p (tree.product place e steps) env = 1 + cost c p e env + products_cost c p steps env
  cost c p (tree.least place a b) env = 1 + cost c p a env + cost c p b env
  cost c p (tree.greatest place a b) env = 1 + cost c p a env + cost c p b env
  cost c p (tree.value_call place m args) env = 1 + sum (costs c p args env) + option_map_or (λ k. c k (costs c p args env)) (macro_position p m.name) 0

  pub sum_cost : MacroCosts → ProblemData → SumTree → CostEnv → ℕ
  sum_cost c p (tree.plus e) env = cost c p e env
  sum_cost c p (tree.minus e) env = cost c p e env

  pub sums_cost : MacroCosts → ProblemData → SumTrees → CostEnv → ℕ
  sums_cost c p tree.no_sums env = 0
  sums_cost c p (tree.a_sum s rest) env = sum_cost c p s env + sums_cost c p rest env

  pub product_cost : MacroCosts → ProblemData → ProductTree → CostEnv → ℕ
  product_cost c p (tree.times e) env = cost c p e env
  product_cost c p (tree.over place n) env = 0
  product_cost c p (tree.modulo place n) env = 0

  pub products_cost : MacroCosts → ProblemData → ProductTrees → CostEnv → ℕ
  products_cost c p tree.no_products env = 0
  products_cost c p (tree.a_product s rest) env = product_cost c p s env + products_cost c p rest env

  pub argument_cost : MacroCosts → ProblemData → ArgumentTree → CostEnv → ℕ
  argument_cost c p (tree.argument place e) env = cost c p e env

  pub costs : MacroCosts → ProblemData → ArgumentTrees → CostEnv → List ℕ
  costs c p tree.no_arguments env = []
  costs c p (tree.an_argument a rest) env = argument_cost c p a env ∷ costs c p rest env

abbrev pub price_all : List ParamData → List ℕ → CostEnv
price_all [] ks = []
price_all (q ∷ params) [] = []
price_all (q ∷ params) (k ∷ ks) = price q.name k (price_all params ks)

abbrev pub body_cost : MacroCosts → ProblemData → BodyTree → CostEnv → ℕ
body_cost c p (means f) env = 0
body_cost c p (equals e) env = cost c p e env

-- of the first n macros
abbrev pub costs_of : ProblemData → ℕ → MacroCosts
costs_of p zero k ks = 0
costs_of p (suc n) k ks = if k == n then body_cost (costs_of p n) p (macro_of p n).body (price_all (macro_of p n).params ks) else costs_of p n k ks

abbrev mutual
  pub formula_cost : (ℕ → ℕ) → ProblemData → FormulaTree → ℕ
  formula_cost c p (tree.truth place) = 1
  formula_cost c p (tree.falsehood place) = 1
  formula_cost c p (tree.negation place f) = 1 + formula_cost c p f
  formula_cost c p (tree.all_of place fs) = 1 + formulas_cost c p fs
  formula_cost c p (tree.any_of place fs) = 1 + formulas_cost c p fs
  formula_cost c p (tree.implication place f g) = 1 + formula_cost c p f + formula_cost c p g
  formula_cost c p (tree.equivalence place f g) = 1 + formula_cost c p f + formula_cost c p g
  formula_cost c p (tree.comparison place a rel b) = 1
  formula_cost c p (tree.quantified place kind v coll f) = 1 + formula_cost c p f
  formula_cost c p (tree.formula_call place m args) = 1 + option_map_or c (macro_position p m.name) 0

  pub formulas_cost : (ℕ → ℕ) → ProblemData → FormulaTrees → ℕ
  formulas_cost c p tree.no_formulas = 0
  formulas_cost c p (tree.a_formula f rest) = formula_cost c p f + formulas_cost c p rest

abbrev pub body_formula_cost : (ℕ → ℕ) → ProblemData → BodyTree → ℕ
body_formula_cost c p (means f) = formula_cost c p f
body_formula_cost c p (equals e) = 0

abbrev pub formula_costs_of : ProblemData → ℕ → ℕ → ℕ
formula_costs_of p zero k = 0
formula_costs_of p (suc n) k = if k == n then body_formula_cost (formula_costs_of p n) p (macro_of p n).body else formula_costs_of p n k
