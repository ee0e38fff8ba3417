-- What expressions and formulas stand for, variant by variant.
use Rattle.std.proofs.Common.{◌≡◌, ℕ, List, map, Box, Vec, Global, sym, ap, ◌∙◌}
use Rattle.rule_syntax.specs.Tree as tree
use Rattle.rule_syntax.specs.Tree.{ExprTree, SumTree, ProductTree, ArgumentTree, FormulaTree}
use Rattle.rule_syntax.specs.View.{expr_view, sum_view, product_view, argument_view, coll_view, formula_view, expr_step, sum_step, product_step, argument_step, formula_step}
use Rattle.rule_syntax.specs.declared.tree.Expr.{Expr}
use Rattle.rule_syntax.specs.declared.tree.SumStep.{SumStep}
use Rattle.rule_syntax.specs.declared.tree.ProdStep.{ProdStep}
use Rattle.rule_syntax.specs.declared.tree.Argument.{Argument}
use Rattle.rule_syntax.specs.declared.tree.PlacedName.{PlacedName}
use Rattle.rule_syntax.specs.declared.tree.Rel.{Rel}
use Rattle.rule_syntax.specs.declared.tree.QuantKind.{QuantKind}
use Rattle.rule_syntax.specs.declared.tree.Coll.{Coll}
use Rattle.rule_syntax.specs.declared.tree.Formula.{Formula}
use Rattle.rule_syntax.specs.declared.tree.Expr.TheOpen.{Expr-F, SumStep-F, ProdStep-F}
use Rattle.rule_syntax.specs.declared.tree.Expr.TheFolds.{fold-roll-Expr, fold-roll-SumStep, fold-roll-ProdStep}
use Rattle.rule_syntax.specs.declared.tree.Formula.TheOpen.{Formula-F}
use Rattle.rule_syntax.specs.declared.tree.Formula.TheFolds.{fold-roll-Formula}
use Rattle.rule_syntax.specs.declared.tree.Expr.TheVariants as exprs
use Rattle.rule_syntax.specs.declared.tree.SumStep.TheVariants as sum_steps
use Rattle.rule_syntax.specs.declared.tree.ProdStep.TheVariants as product_steps
use Rattle.rule_syntax.specs.declared.tree.Formula.TheVariants as formulas

pub num-seen : {e : Expr} (place n : ℕ) → e ≡ exprs.Num place n → expr_view e ≡ tree.number place n
num-seen place n h = rw h (ap expr_view (sym (exprs.rolls-Num place n)) ∙ fold-roll-Expr ExprTree ProductTree SumTree ArgumentTree expr_step product_step sum_step argument_step (Expr-F.Num place n))

pub field-seen : {e : Expr} (a : PlacedName) (dot : ℕ) (b : PlacedName) → e ≡ exprs.Field a dot b → expr_view e ≡ tree.field a dot b
field-seen a dot b h = rw h (ap expr_view (sym (exprs.rolls-Field a dot b)) ∙ fold-roll-Expr ExprTree ProductTree SumTree ArgumentTree expr_step product_step sum_step argument_step (Expr-F.Field a dot b))

pub param-seen : {e : Expr} (a : PlacedName) → e ≡ exprs.Param a → expr_view e ≡ tree.param a
param-seen a h = rw h (ap expr_view (sym (exprs.rolls-Param a)) ∙ fold-roll-Expr ExprTree ProductTree SumTree ArgumentTree expr_step product_step sum_step argument_step (Expr-F.Param a))

pub shape-seen : {e : Expr} (place : ℕ) (a : PlacedName) → e ≡ exprs.ShapeNum place a → expr_view e ≡ tree.shape_number place a
shape-seen place a h = rw h (ap expr_view (sym (exprs.rolls-ShapeNum place a)) ∙ fold-roll-Expr ExprTree ProductTree SumTree ArgumentTree expr_step product_step sum_step argument_step (Expr-F.ShapeNum place a))

pub negative-seen : {e : Expr} {f : Expr} (place : ℕ) (a : Box Expr Global) → e ≡ exprs.Neg place a → f ≡ a.value → expr_view e ≡ tree.negative place (expr_view f)
negative-seen place a h i = rw (h, i) (ap expr_view (sym (exprs.rolls-Neg place a)) ∙ fold-roll-Expr ExprTree ProductTree SumTree ArgumentTree expr_step product_step sum_step argument_step (Expr-F.Neg place a))

pub sum-seen : {e : Expr} {f : Expr} {ss : List SumStep} (place : ℕ) (first : Box Expr Global) (steps : Vec SumStep Global) → e ≡ exprs.Sum place first steps → f ≡ first.value → ss ≡ steps.items → expr_view e ≡ tree.sum place (expr_view f) (tree.sums (map sum_view ss))
sum-seen place first steps h i j = rw (h, i, j) (ap expr_view (sym (exprs.rolls-Sum place first steps)) ∙ fold-roll-Expr ExprTree ProductTree SumTree ArgumentTree expr_step product_step sum_step argument_step (Expr-F.Sum place first steps))

pub product-seen : {e : Expr} {f : Expr} {ss : List ProdStep} (place : ℕ) (first : Box Expr Global) (steps : Vec ProdStep Global) → e ≡ exprs.Prod place first steps → f ≡ first.value → ss ≡ steps.items → expr_view e ≡ tree.product place (expr_view f) (tree.products (map product_view ss))
product-seen place first steps h i j = rw (h, i, j) (ap expr_view (sym (exprs.rolls-Prod place first steps)) ∙ fold-roll-Expr ExprTree ProductTree SumTree ArgumentTree expr_step product_step sum_step argument_step (Expr-F.Prod place first steps))

pub least-seen : {e : Expr} {f g : Expr} (place : ℕ) (a b : Box Expr Global) → e ≡ exprs.Min place a b → f ≡ a.value → g ≡ b.value → expr_view e ≡ tree.least place (expr_view f) (expr_view g)
least-seen place a b h i j = rw (h, i, j) (ap expr_view (sym (exprs.rolls-Min place a b)) ∙ fold-roll-Expr ExprTree ProductTree SumTree ArgumentTree expr_step product_step sum_step argument_step (Expr-F.Min place a b))

pub greatest-seen : {e : Expr} {f g : Expr} (place : ℕ) (a b : Box Expr Global) → e ≡ exprs.Max place a b → f ≡ a.value → g ≡ b.value → expr_view e ≡ tree.greatest place (expr_view f) (expr_view g)
greatest-seen place a b h i j = rw (h, i, j) (ap expr_view (sym (exprs.rolls-Max place a b)) ∙ fold-roll-Expr ExprTree ProductTree SumTree ArgumentTree expr_step product_step sum_step argument_step (Expr-F.Max place a b))

pub call-seen : {e : Expr} {es : List Argument} (place : ℕ) (m : PlacedName) (args : Vec Argument Global) → e ≡ exprs.CallValue place m args → es ≡ args.items → expr_view e ≡ tree.value_call place m (tree.arguments (map argument_view es))
call-seen place m args h i = rw (h, i) (ap expr_view (sym (exprs.rolls-CallValue place m args)) ∙ fold-roll-Expr ExprTree ProductTree SumTree ArgumentTree expr_step product_step sum_step argument_step (Expr-F.CallValue place m args))

pub plus-seen : {e : SumStep} (a : Expr) → e ≡ sum_steps.Plus a → sum_view e ≡ tree.plus (expr_view a)
plus-seen a h = rw h (ap sum_view (sym (sum_steps.rolls-Plus a)) ∙ fold-roll-SumStep ExprTree ProductTree SumTree ArgumentTree expr_step product_step sum_step argument_step (SumStep-F.Plus a))

pub minus-seen : {e : SumStep} (a : Expr) → e ≡ sum_steps.Minus a → sum_view e ≡ tree.minus (expr_view a)
minus-seen a h = rw h (ap sum_view (sym (sum_steps.rolls-Minus a)) ∙ fold-roll-SumStep ExprTree ProductTree SumTree ArgumentTree expr_step product_step sum_step argument_step (SumStep-F.Minus a))

pub times-seen : {e : ProdStep} (a : Expr) → e ≡ product_steps.Times a → product_view e ≡ tree.times (expr_view a)
times-seen a h = rw h (ap product_view (sym (product_steps.rolls-Times a)) ∙ fold-roll-ProdStep ExprTree ProductTree SumTree ArgumentTree expr_step product_step sum_step argument_step (ProdStep-F.Times a))

pub truth-seen : {f : Formula} (place : ℕ) → f ≡ formulas.True place → formula_view f ≡ tree.truth place
truth-seen place h = rw h (ap formula_view (sym (formulas.rolls-True place)) ∙ fold-roll-Formula FormulaTree formula_step (Formula-F.True place))

pub falsehood-seen : {f : Formula} (place : ℕ) → f ≡ formulas.False place → formula_view f ≡ tree.falsehood place
falsehood-seen place h = rw h (ap formula_view (sym (formulas.rolls-False place)) ∙ fold-roll-Formula FormulaTree formula_step (Formula-F.False place))

pub negation-seen : {f : Formula} {g : Formula} (place : ℕ) (a : Box Formula Global) → f ≡ formulas.Not place a → g ≡ a.value → formula_view f ≡ tree.negation place (formula_view g)
negation-seen place a h i = rw (h, i) (ap formula_view (sym (formulas.rolls-Not place a)) ∙ fold-roll-Formula FormulaTree formula_step (Formula-F.Not place a))

pub all_of-seen : {f : Formula} {gs : List Formula} (place : ℕ) (fs : Vec Formula Global) → f ≡ formulas.And place fs → gs ≡ fs.items → formula_view f ≡ tree.all_of place (tree.formulas (map formula_view gs))
all_of-seen place fs h i = rw (h, i) (ap formula_view (sym (formulas.rolls-And place fs)) ∙ fold-roll-Formula FormulaTree formula_step (Formula-F.And place fs))

pub any_of-seen : {f : Formula} {gs : List Formula} (place : ℕ) (fs : Vec Formula Global) → f ≡ formulas.Or place fs → gs ≡ fs.items → formula_view f ≡ tree.any_of place (tree.formulas (map formula_view gs))
any_of-seen place fs h i = rw (h, i) (ap formula_view (sym (formulas.rolls-Or place fs)) ∙ fold-roll-Formula FormulaTree formula_step (Formula-F.Or place fs))

pub implication-seen : {f : Formula} {g k : Formula} (place : ℕ) (a b : Box Formula Global) → f ≡ formulas.Implies place a b → g ≡ a.value → k ≡ b.value → formula_view f ≡ tree.implication place (formula_view g) (formula_view k)
implication-seen place a b h i j = rw (h, i, j) (ap formula_view (sym (formulas.rolls-Implies place a b)) ∙ fold-roll-Formula FormulaTree formula_step (Formula-F.Implies place a b))

pub equivalence-seen : {f : Formula} {g k : Formula} (place : ℕ) (a b : Box Formula Global) → f ≡ formulas.Iff place a b → g ≡ a.value → k ≡ b.value → formula_view f ≡ tree.equivalence place (formula_view g) (formula_view k)
equivalence-seen place a b h i j = rw (h, i, j) (ap formula_view (sym (formulas.rolls-Iff place a b)) ∙ fold-roll-Formula FormulaTree formula_step (Formula-F.Iff place a b))

pub comparison-seen : {f : Formula} {d e : Expr} (place : ℕ) (a : Box Expr Global) (rel : Rel) (b : Box Expr Global) → f ≡ formulas.Compare place a rel b → d ≡ a.value → e ≡ b.value → formula_view f ≡ tree.comparison place (expr_view d) rel (expr_view e)
comparison-seen place a rel b h i j = rw (h, i, j) (ap formula_view (sym (formulas.rolls-Compare place a rel b)) ∙ fold-roll-Formula FormulaTree formula_step (Formula-F.Compare place a rel b))

pub quantified-seen : {f : Formula} {g : Formula} (place : ℕ) (kind : QuantKind) (v : PlacedName) (coll : Coll) (a : Box Formula Global) → f ≡ formulas.Quant place kind v coll a → g ≡ a.value → formula_view f ≡ tree.quantified place kind v (coll_view coll) (formula_view g)
quantified-seen place kind v coll a h i = rw (h, i) (ap formula_view (sym (formulas.rolls-Quant place kind v coll a)) ∙ fold-roll-Formula FormulaTree formula_step (Formula-F.Quant place kind v coll a))

pub formula_call-seen : {f : Formula} {es : List Argument} (place : ℕ) (m : PlacedName) (args : Vec Argument Global) → f ≡ formulas.Call place m args → es ≡ args.items → formula_view f ≡ tree.formula_call place m (tree.arguments (map argument_view es))
formula_call-seen place m args h i = rw (h, i) (ap formula_view (sym (formulas.rolls-Call place m args)) ∙ fold-roll-Formula FormulaTree formula_step (Formula-F.Call place m args))
