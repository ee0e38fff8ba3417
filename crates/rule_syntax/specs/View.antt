-- The trees of the code, without where they lie in memory.
use Rattle.std.specs.Prelude.{List, map, Vec, Option, option_map}
use Rattle.std.specs.declared.alloc.Global.{Global}
use Rattle.rule_syntax.specs.Tree.{ExprTree, number, field, param, shape_number, negative, sum, product, least, greatest, value_call, SumTree, plus, minus, sums, ProductTree, times, over, modulo, products, ArgumentTree, argument, arguments, CollTree, all_objects, listed, boxes_of, FormulaTree, truth, falsehood, negation, all_of, any_of, implication, equivalence, comparison, quantified, formula_call, formulas}
use Rattle.rule_syntax.specs.declared.tree.PlacedName.{PlacedName}
use Rattle.rule_syntax.specs.declared.tree.Expr.{Expr}
use Rattle.rule_syntax.specs.declared.tree.SumStep.{SumStep}
use Rattle.rule_syntax.specs.declared.tree.ProdStep.{ProdStep}
use Rattle.rule_syntax.specs.declared.tree.Argument.{Argument}
use Rattle.rule_syntax.specs.declared.tree.Expr.TheFolds.{fold-Expr, fold-SumStep, fold-ProdStep, fold-Argument}
use Rattle.rule_syntax.specs.declared.tree.Expr.TheOpen.{Expr-F, SumStep-F, ProdStep-F, Argument-F}
use Rattle.rule_syntax.specs.declared.tree.Formula.{Formula, fold-Formula}
use Rattle.rule_syntax.specs.declared.tree.Formula.TheOpen.{Formula-F}
use Rattle.rule_syntax.specs.declared.tree.Coll.{Coll}
use Rattle.rule_syntax.specs.declared.tree.Coll.TheVariants as colls

abbrev pub expr_step : Expr-F ExprTree ProductTree SumTree ArgumentTree → ExprTree
expr_step (Expr-F.Num p n) = number p n
expr_step (Expr-F.Field a d b) = field a d b
expr_step (Expr-F.Param a) = param a
expr_step (Expr-F.ShapeNum p a) = shape_number p a
expr_step (Expr-F.Neg p e) = negative p e.value
expr_step (Expr-F.Sum p e ss) = sum p e.value (sums ss.items)
expr_step (Expr-F.Prod p e ss) = product p e.value (products ss.items)
expr_step (Expr-F.Min p a b) = least p a.value b.value
expr_step (Expr-F.Max p a b) = greatest p a.value b.value
expr_step (Expr-F.CallValue p a es) = value_call p a (arguments es.items)

abbrev pub sum_step : SumStep-F ExprTree ProductTree SumTree ArgumentTree → SumTree
sum_step (SumStep-F.Plus e) = plus e
sum_step (SumStep-F.Minus e) = minus e

abbrev pub product_step : ProdStep-F ExprTree ProductTree SumTree ArgumentTree → ProductTree
product_step (ProdStep-F.Times e) = times e
product_step (ProdStep-F.Div p n) = over p n
product_step (ProdStep-F.Mod p n) = modulo p n

abbrev pub argument_step : Argument-F ExprTree ProductTree SumTree ArgumentTree → ArgumentTree
argument_step a = argument a.place a.value

abbrev pub expr_view : Expr → ExprTree
expr_view = fold-Expr ExprTree ProductTree SumTree ArgumentTree expr_step product_step sum_step argument_step

abbrev pub sum_view : SumStep → SumTree
sum_view = fold-SumStep ExprTree ProductTree SumTree ArgumentTree expr_step product_step sum_step argument_step

abbrev pub product_view : ProdStep → ProductTree
product_view = fold-ProdStep ExprTree ProductTree SumTree ArgumentTree expr_step product_step sum_step argument_step

abbrev pub argument_view : Argument → ArgumentTree
argument_view = fold-Argument ExprTree ProductTree SumTree ArgumentTree expr_step product_step sum_step argument_step

abbrev pub sum_views : Vec SumStep Global → List SumTree
sum_views ss = map sum_view ss.items

abbrev pub product_views : Vec ProdStep Global → List ProductTree
product_views ss = map product_view ss.items

abbrev pub argument_views : Vec Argument Global → List ArgumentTree
argument_views es = map argument_view es.items

abbrev pub coll_view : Coll → CollTree
coll_view colls.Objects = all_objects
coll_view (colls.Listed ns) = listed ns.items
coll_view (colls.BoxesOf n) = boxes_of n

abbrev pub formula_step : Formula-F FormulaTree → FormulaTree
formula_step (Formula-F.True p) = truth p
formula_step (Formula-F.False p) = falsehood p
formula_step (Formula-F.Not p f) = negation p f.value
formula_step (Formula-F.And p fs) = all_of p (formulas fs.items)
formula_step (Formula-F.Or p fs) = any_of p (formulas fs.items)
formula_step (Formula-F.Implies p f g) = implication p f.value g.value
formula_step (Formula-F.Iff p f g) = equivalence p f.value g.value
formula_step (Formula-F.Compare p a r b) = comparison p (expr_view a.value) r (expr_view b.value)
formula_step (Formula-F.Quant p k v c f) = quantified p k v (coll_view c) f.value
formula_step (Formula-F.Call p a es) = formula_call p a (arguments (argument_views es))

abbrev pub formula_view : Formula → FormulaTree
formula_view = fold-Formula FormulaTree formula_step

abbrev pub formula_views : Vec Formula Global → List FormulaTree
formula_views fs = map formula_view fs.items

abbrev pub pair_view : Expr × Expr → ExprTree × ExprTree
pair_view p = (expr_view p.0, expr_view p.1)

abbrev pub names_view : Vec PlacedName Global → List PlacedName
names_view ns = ns.items

abbrev pub behind_view : Option Formula → Option FormulaTree
behind_view f = option_map formula_view f
