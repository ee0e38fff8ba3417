-- How many nodes an expanded rule has, and how deep it is. Formulas and expressions are the nodes; a node alone has depth 1.
use Rattle.std.specs.Prelude.{ℕ, ◌+◌, max}
use Rattle.rule_expand.specs.Plain.{PlainExprTree, number, field, shape_number, negative, sum, product, least, greatest, PlainSumTree, plus, minus, PlainSums, no_sums, a_sum, PlainProductTree, times, over, modulo, PlainProducts, no_products, a_product, PlainFormulaTree, truth, falsehood, negation, all_of, any_of, implication, equivalence, comparison, quantified, PlainFormulas, no_formulas, a_formula}

abbrev mutual
  pub expr_nodes : PlainExprTree → ℕ
  expr_nodes (number n) = 1
  expr_nodes (field s f) = 1
  expr_nodes (shape_number s) = 1
  expr_nodes (negative e) = 1 + expr_nodes e
  expr_nodes (sum e steps) = 1 + expr_nodes e + sums_nodes steps
  expr_nodes (product e steps) = 1 + expr_nodes e + products_nodes steps
  expr_nodes (least a b) = 1 + expr_nodes a + expr_nodes b
  expr_nodes (greatest a b) = 1 + expr_nodes a + expr_nodes b

  pub sum_nodes : PlainSumTree → ℕ
  sum_nodes (plus e) = expr_nodes e
  sum_nodes (minus e) = expr_nodes e

  pub sums_nodes : PlainSums → ℕ
  sums_nodes no_sums = 0
  sums_nodes (a_sum s rest) = sum_nodes s + sums_nodes rest

  pub product_nodes : PlainProductTree → ℕ
  product_nodes (times e) = expr_nodes e
  product_nodes (over n) = 0
  product_nodes (modulo n) = 0

  pub products_nodes : PlainProducts → ℕ
  products_nodes no_products = 0
  products_nodes (a_product s rest) = product_nodes s + products_nodes rest

abbrev mutual
  pub expr_depth : PlainExprTree → ℕ
  expr_depth (number n) = 1
  expr_depth (field s f) = 1
  expr_depth (shape_number s) = 1
  expr_depth (negative e) = 1 + expr_depth e
  expr_depth (sum e steps) = 1 + max (expr_depth e) (sums_depth steps)
  expr_depth (product e steps) = 1 + max (expr_depth e) (products_depth steps)
  expr_depth (least a b) = 1 + max (expr_depth a) (expr_depth b)
  expr_depth (greatest a b) = 1 + max (expr_depth a) (expr_depth b)

  pub sum_depth : PlainSumTree → ℕ
  sum_depth (plus e) = expr_depth e
  sum_depth (minus e) = expr_depth e

  pub sums_depth : PlainSums → ℕ
  sums_depth no_sums = 0
  sums_depth (a_sum s rest) = max (sum_depth s) (sums_depth rest)

  pub product_depth : PlainProductTree → ℕ
  product_depth (times e) = expr_depth e
  product_depth (over n) = 0
  product_depth (modulo n) = 0

  pub products_depth : PlainProducts → ℕ
  products_depth no_products = 0
  products_depth (a_product s rest) = max (product_depth s) (products_depth rest)

abbrev mutual
  pub nodes : PlainFormulaTree → ℕ
  nodes truth = 1
  nodes falsehood = 1
  nodes (negation f) = 1 + nodes f
  nodes (all_of fs) = 1 + nodes_in fs
  nodes (any_of fs) = 1 + nodes_in fs
  nodes (implication f g) = 1 + nodes f + nodes g
  nodes (equivalence f g) = 1 + nodes f + nodes g
  nodes (comparison a rel b) = 1 + expr_nodes a + expr_nodes b
  nodes (quantified kind v coll f) = 1 + nodes f

  pub nodes_in : PlainFormulas → ℕ
  nodes_in no_formulas = 0
  nodes_in (a_formula f rest) = nodes f + nodes_in rest

abbrev mutual
  pub depth : PlainFormulaTree → ℕ
  depth truth = 1
  depth falsehood = 1
  depth (negation f) = 1 + depth f
  depth (all_of fs) = 1 + depth_in fs
  depth (any_of fs) = 1 + depth_in fs
  depth (implication f g) = 1 + max (depth f) (depth g)
  depth (equivalence f g) = 1 + max (depth f) (depth g)
  depth (comparison a rel b) = 1 + max (expr_depth a) (expr_depth b)
  depth (quantified kind v coll f) = 1 + depth f

  pub depth_in : PlainFormulas → ℕ
  depth_in no_formulas = 0
  depth_in (a_formula f rest) = max (depth f) (depth_in rest)
