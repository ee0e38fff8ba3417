-- Products of coordinates, which no linear condition says.
use Rattle.std.specs.Prelude.{Bool, false, ◌||◌, ◌&&◌, is_some}
use Rattle.problem_data.specs.Value.{coordinate_of}
use Rattle.rule_expand.specs.Plain.{PlainExprTree, number, field, shape_number, negative, sum, product, least, greatest, PlainSumTree, plus, minus, PlainSums, no_sums, a_sum, PlainProductTree, times, over, modulo, PlainProducts, no_products, a_product, PlainFormulaTree, truth, falsehood, negation, all_of, any_of, implication, equivalence, comparison, quantified, PlainFormulas, no_formulas, a_formula}

abbrev mutual
  -- whether a coordinate stands in an expression
  pub has_coordinate : PlainExprTree → Bool
  has_coordinate (number n) = false
  has_coordinate (field s f) = is_some (coordinate_of f)
  has_coordinate (shape_number s) = false
  has_coordinate (negative e) = has_coordinate e
  has_coordinate (sum e steps) = has_coordinate e || sums_have steps
  has_coordinate (product e steps) = has_coordinate e || products_have steps
  has_coordinate (least a b) = has_coordinate a || has_coordinate b
  has_coordinate (greatest a b) = has_coordinate a || has_coordinate b

  pub sum_has : PlainSumTree → Bool
  sum_has (plus e) = has_coordinate e
  sum_has (minus e) = has_coordinate e

  pub sums_have : PlainSums → Bool
  sums_have no_sums = false
  sums_have (a_sum s rest) = sum_has s || sums_have rest

  pub product_has : PlainProductTree → Bool
  product_has (times e) = has_coordinate e
  product_has (over n) = false
  product_has (modulo n) = false

  pub products_have : PlainProducts → Bool
  products_have no_products = false
  products_have (a_product s rest) = product_has s || products_have rest

abbrev mutual
  -- whether coordinates stand in two factors of a product, or under `div`, `mod`, `min` or `max`
  pub expr_breaks : PlainExprTree → Bool
  expr_breaks (number n) = false
  expr_breaks (field s f) = false
  expr_breaks (shape_number s) = false
  expr_breaks (negative e) = expr_breaks e
  expr_breaks (sum e steps) = expr_breaks e || sums_break steps
  expr_breaks (product e steps) = expr_breaks e || products_break (has_coordinate e) steps
  expr_breaks (least a b) = has_coordinate a || has_coordinate b
  expr_breaks (greatest a b) = has_coordinate a || has_coordinate b

  pub sum_breaks : PlainSumTree → Bool
  sum_breaks (plus e) = expr_breaks e
  sum_breaks (minus e) = expr_breaks e

  pub sums_break : PlainSums → Bool
  sums_break no_sums = false
  sums_break (a_sum s rest) = sum_breaks s || sums_break rest

  -- a step, where coordinates stand to its left or not
  pub product_breaks : Bool → PlainProductTree → Bool
  product_breaks left (times e) = expr_breaks e || (left && has_coordinate e)
  product_breaks left (over n) = left
  product_breaks left (modulo n) = left

  pub products_break : Bool → PlainProducts → Bool
  products_break left no_products = false
  products_break left (a_product s rest) = product_breaks left s || products_break (left || product_has s) rest

abbrev mutual
  pub formula_breaks : PlainFormulaTree → Bool
  formula_breaks truth = false
  formula_breaks falsehood = false
  formula_breaks (negation f) = formula_breaks f
  formula_breaks (all_of fs) = formulas_break fs
  formula_breaks (any_of fs) = formulas_break fs
  formula_breaks (implication f g) = formula_breaks f || formula_breaks g
  formula_breaks (equivalence f g) = formula_breaks f || formula_breaks g
  formula_breaks (comparison a rel b) = expr_breaks a || expr_breaks b
  formula_breaks (quantified kind v coll f) = formula_breaks f

  pub formulas_break : PlainFormulas → Bool
  formulas_break no_formulas = false
  formulas_break (a_formula f rest) = formula_breaks f || formulas_break rest
