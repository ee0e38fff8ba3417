-- What the program's rules without macros stand for.
use Rattle.std.specs.Prelude.{List, map}
use Rattle.rule_expand.specs.Plain.{PlainExprTree, number, field, shape_number, negative, sum, product, least, greatest, PlainSumTree, plus, minus, PlainSums, sums, PlainProductTree, times, over, modulo, PlainProducts, products, PlainCollTree, all_objects, listed, boxes_of, PlainFormulaTree, truth, falsehood, negation, all_of, any_of, implication, equivalence, comparison, quantified, PlainFormulas, formulas}
use Rattle.rule_expand.specs.declared.plain.PlainExpr.{PlainExpr}
use Rattle.rule_expand.specs.declared.plain.PlainSum.{PlainSum}
use Rattle.rule_expand.specs.declared.plain.PlainProd.{PlainProd}
use Rattle.rule_expand.specs.declared.plain.PlainExpr.TheFolds.{fold-PlainExpr, fold-PlainSum, fold-PlainProd}
use Rattle.rule_expand.specs.declared.plain.PlainExpr.TheOpen.{PlainExpr-F, PlainSum-F, PlainProd-F}
use Rattle.rule_expand.specs.declared.plain.PlainColl.{PlainColl}
use Rattle.rule_expand.specs.declared.plain.PlainColl.TheVariants as colls
use Rattle.rule_expand.specs.declared.plain.PlainFormula.{PlainFormula, fold-PlainFormula}
use Rattle.rule_expand.specs.declared.plain.PlainFormula.TheOpen.{PlainFormula-F}

abbrev pub plain_expr_step : PlainExpr-F PlainExprTree PlainProductTree PlainSumTree → PlainExprTree
plain_expr_step (PlainExpr-F.Num n) = number n
plain_expr_step (PlainExpr-F.Field s n) = field s n
plain_expr_step (PlainExpr-F.ShapeNum s) = shape_number s
plain_expr_step (PlainExpr-F.Neg e) = negative e.value
plain_expr_step (PlainExpr-F.Sum e ss) = sum e.value (sums ss.items)
plain_expr_step (PlainExpr-F.Prod e ss) = product e.value (products ss.items)
plain_expr_step (PlainExpr-F.Min a b) = least a.value b.value
plain_expr_step (PlainExpr-F.Max a b) = greatest a.value b.value

abbrev pub plain_sum_step : PlainSum-F PlainExprTree PlainProductTree PlainSumTree → PlainSumTree
plain_sum_step (PlainSum-F.Plus e) = plus e
plain_sum_step (PlainSum-F.Minus e) = minus e

abbrev pub plain_product_step : PlainProd-F PlainExprTree PlainProductTree PlainSumTree → PlainProductTree
plain_product_step (PlainProd-F.Times e) = times e
plain_product_step (PlainProd-F.Div n) = over n
plain_product_step (PlainProd-F.Mod n) = modulo n

abbrev pub plain_expr_view : PlainExpr → PlainExprTree
plain_expr_view = fold-PlainExpr PlainExprTree PlainProductTree PlainSumTree plain_expr_step plain_product_step plain_sum_step

abbrev pub plain_sum_view : PlainSum → PlainSumTree
plain_sum_view = fold-PlainSum PlainExprTree PlainProductTree PlainSumTree plain_expr_step plain_product_step plain_sum_step

abbrev pub plain_product_view : PlainProd → PlainProductTree
plain_product_view = fold-PlainProd PlainExprTree PlainProductTree PlainSumTree plain_expr_step plain_product_step plain_sum_step

abbrev pub plain_sums_view : List PlainSum → PlainSums
plain_sums_view ss = sums (map plain_sum_view ss)

abbrev pub plain_products_view : List PlainProd → PlainProducts
plain_products_view ss = products (map plain_product_view ss)

abbrev pub plain_coll_view : PlainColl → PlainCollTree
plain_coll_view colls.Objects = all_objects
plain_coll_view (colls.Listed os) = listed os.items
plain_coll_view (colls.BoxesOf s) = boxes_of s

abbrev pub plain_formula_step : PlainFormula-F PlainFormulaTree → PlainFormulaTree
plain_formula_step PlainFormula-F.True = truth
plain_formula_step PlainFormula-F.False = falsehood
plain_formula_step (PlainFormula-F.Not f) = negation f.value
plain_formula_step (PlainFormula-F.And fs) = all_of (formulas fs.items)
plain_formula_step (PlainFormula-F.Or fs) = any_of (formulas fs.items)
plain_formula_step (PlainFormula-F.Implies f g) = implication f.value g.value
plain_formula_step (PlainFormula-F.Iff f g) = equivalence f.value g.value
plain_formula_step (PlainFormula-F.Compare a rel b) = comparison (plain_expr_view a.value) rel (plain_expr_view b.value)
plain_formula_step (PlainFormula-F.Quant kind v coll f) = quantified kind v (plain_coll_view coll) f.value

abbrev pub plain_formula_view : PlainFormula → PlainFormulaTree
plain_formula_view = fold-PlainFormula PlainFormulaTree plain_formula_step

abbrev pub plain_formulas_view : List PlainFormula → PlainFormulas
plain_formulas_view fs = formulas (map plain_formula_view fs)
