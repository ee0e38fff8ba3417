use Rattle.std.proofs.Common.{◌≡◌, ◌∙◌, ℕ, Bool, false, Option, map, refl, sym, ap}
use Rattle.rule_syntax.specs.Tree.{ExprTree, sums, products, arguments}
use Rattle.rule_syntax.specs.View.{expr_view, sum_view, product_view, argument_view}
use Rattle.rule_syntax.proofs.Views.{num-seen, field-seen, param-seen, shape-seen, negative-seen, sum-seen, product-seen, call-seen}
use Rattle.problem_data.specs.Problem.{ProblemData}
use Rattle.rule_names.specs.declared.mistake.Mistake.{Mistake}
use Rattle.rule_names.specs.Mistakes.{first_of}
use Rattle.rule_names.specs.Sight.{Sight}
use Rattle.rule_names.specs.ScopeView.{scope_view}
use Rattle.rule_names.specs.Names.{expr_mistakes, sum_mistakes, sums_mistakes, product_mistakes, products_mistakes, argument_mistakes, arguments_mistakes}
use Rattle.rule_names.proofs.Firsts.{part_step, part_done}
use Rattle.rule_names.proofs.expressions.+expressions.Goals as goal

pub sums_mistake-steps-preserved : goal.sums_mistake-steps-preserved
sums_mistake-steps-preserved t c =
    let p = c.args.problem.now in
    let n = c.args.statement in
    let s = scope_view c.args.scope.now in
    part_step (λ x. sum_mistakes p n s (sum_view x)) (λ xs. sums_mistakes p n s (sums (map sum_view xs))) (λ x others. refl) refl c.args.steps.now c.steps.step-index c.step-item.result _ _ _ _ c.steps-test.true c.step-item.is c.earlier-found.ensures.value c.sum_mistake-here.ensures c.steps.invariant

pub sums_mistake-returns : goal.sums_mistake-returns
sums_mistake-returns t c =
    let p = c.args.problem.now in
    let n = c.args.statement in
    let s = scope_view c.args.scope.now in
    part_done (λ x. sum_mistakes p n s (sum_view x)) (λ xs. sums_mistakes p n s (sums (map sum_view xs))) (λ x others. refl) refl c.args.steps.now c.steps.step-index _ _ c.steps-test.false c.steps.invariant

pub products_mistake-steps-preserved : goal.products_mistake-steps-preserved
products_mistake-steps-preserved t c =
    let p = c.args.problem.now in
    let n = c.args.statement in
    let s = scope_view c.args.scope.now in
    part_step (λ x. product_mistakes p n s (product_view x)) (λ xs. products_mistakes p n s (products (map product_view xs))) (λ x others. refl) refl c.args.steps.now c.steps.step-index c.step-item.result _ _ _ _ c.steps-test.true c.step-item.is c.earlier-found.ensures.value c.product_mistake-here.ensures c.steps.invariant

pub products_mistake-returns : goal.products_mistake-returns
products_mistake-returns t c =
    let p = c.args.problem.now in
    let n = c.args.statement in
    let s = scope_view c.args.scope.now in
    part_done (λ x. product_mistakes p n s (product_view x)) (λ xs. products_mistakes p n s (products (map product_view xs))) (λ x others. refl) refl c.args.steps.now c.steps.step-index _ _ c.steps-test.false c.steps.invariant

pub arguments_mistake-arguments-preserved : goal.arguments_mistake-arguments-preserved
arguments_mistake-arguments-preserved t c =
    let p = c.args.problem.now in
    let n = c.args.statement in
    let s = scope_view c.args.scope.now in
    part_step (λ x. argument_mistakes p n s (argument_view x)) (λ xs. arguments_mistakes p n s (arguments (map argument_view xs))) (λ x others. refl) refl c.args.given.now c.arguments.argument-index c.argument-item.result _ _ _ _ c.arguments-test.true c.argument-item.is c.earlier-found.ensures.value c.argument_mistake-here.ensures c.arguments.invariant

pub arguments_mistake-returns : goal.arguments_mistake-returns
arguments_mistake-returns t c =
    let p = c.args.problem.now in
    let n = c.args.statement in
    let s = scope_view c.args.scope.now in
    part_done (λ x. argument_mistakes p n s (argument_view x)) (λ xs. arguments_mistakes p n s (arguments (map argument_view xs))) (λ x others. refl) refl c.args.given.now c.arguments.argument-index _ _ c.arguments-test.false c.arguments.invariant

given-as : (p : ProblemData) (n : ℕ) (s : Sight) (any_kind : Bool) {u v : ExprTree} (o : Option Mistake) → v ≡ u → o ≡ first_of (expr_mistakes p n s any_kind u) → o ≡ first_of (expr_mistakes p n s any_kind v)
given-as p n s any_kind o e h = h ∙ sym (ap (λ (v : ExprTree). first_of (expr_mistakes p n s any_kind v)) e)

pub expr_mistake-returns-in-Num : goal.expr_mistake-returns-in-Num
expr_mistake-returns-in-Num t c =
    let p = c.args.problem.now in
    let n = c.args.statement in
    let s = scope_view c.args.scope.now in
    given-as p n s c.args.any_kind _ (num-seen _ _ c.in-Num.is) refl

pub expr_mistake-returns-in-Field : goal.expr_mistake-returns-in-Field
expr_mistake-returns-in-Field t c =
    let p = c.args.problem.now in
    let n = c.args.statement in
    let s = scope_view c.args.scope.now in
    given-as p n s c.args.any_kind c.field_mistake.result (field-seen c.in-Field.of c.in-Field.dot c.in-Field.field c.in-Field.is) c.field_mistake.ensures

pub expr_mistake-returns-in-Param : goal.expr_mistake-returns-in-Param
expr_mistake-returns-in-Param t c =
    let p = c.args.problem.now in
    let n = c.args.statement in
    let s = scope_view c.args.scope.now in
    given-as p n s c.args.any_kind c.bare_mistake.result (param-seen c.in-Param.name c.in-Param.is) c.bare_mistake.ensures

pub expr_mistake-returns-in-ShapeNum : goal.expr_mistake-returns-in-ShapeNum
expr_mistake-returns-in-ShapeNum t c =
    let p = c.args.problem.now in
    let n = c.args.statement in
    let s = scope_view c.args.scope.now in
    given-as p n s c.args.any_kind c.shape_mistake.result (shape-seen c.in-ShapeNum.field-0 c.in-ShapeNum.name c.in-ShapeNum.is) c.shape_mistake.ensures

pub expr_mistake-returns-in-Neg : goal.expr_mistake-returns-in-Neg
expr_mistake-returns-in-Neg t c =
    let p = c.args.problem.now in
    let n = c.args.statement in
    let s = scope_view c.args.scope.now in
    given-as p n s c.args.any_kind c.expr_mistake.result (negative-seen c.in-Neg.field-0 c.in-Neg.inner c.in-Neg.is c.deref.ensures) c.expr_mistake.ensures

pub expr_mistake-returns-in-Sum : goal.expr_mistake-returns-in-Sum
expr_mistake-returns-in-Sum t c =
    let p = c.args.problem.now in
    let n = c.args.statement in
    let s = scope_view c.args.scope.now in
    given-as p n s c.args.any_kind c.earlier.result (sum-seen c.in-Sum.field-0 c.in-Sum.first c.in-Sum.steps c.in-Sum.is c.deref-in-Sum.ensures c.as_slice.ensures.value)
    (c.earlier.ensures.lists (expr_mistakes p n s false (expr_view c.deref-in-Sum.result.now)) (sums_mistakes p n s (sums (map sum_view c.as_slice.result.now))) c.expr_mistake-one.ensures c.sums_mistake-others.ensures)

pub expr_mistake-returns-in-Prod : goal.expr_mistake-returns-in-Prod
expr_mistake-returns-in-Prod t c =
    let p = c.args.problem.now in
    let n = c.args.statement in
    let s = scope_view c.args.scope.now in
    given-as p n s c.args.any_kind c.earlier-in-Prod.result (product-seen c.in-Prod.field-0 c.in-Prod.first c.in-Prod.steps c.in-Prod.is c.deref-in-Prod.ensures c.as_slice-in-Prod.ensures.value)
    (c.earlier-in-Prod.ensures.lists (expr_mistakes p n s false (expr_view c.deref-in-Prod.result.now)) (products_mistakes p n s (products (map product_view c.as_slice-in-Prod.result.now))) c.expr_mistake-one-in-Prod.ensures c.products_mistake-others.ensures)

pub expr_mistake-returns-in-CallValue : goal.expr_mistake-returns-in-CallValue
expr_mistake-returns-in-CallValue t c =
    let p = c.args.problem.now in
    let n = c.args.statement in
    let s = scope_view c.args.scope.now in
    given-as p n s c.args.any_kind c.whole_call_mistake.result (call-seen c.in-CallValue.place c.in-CallValue.name c.in-CallValue.given c.in-CallValue.is c.as_slice-list.ensures.value) c.whole_call_mistake.ensures
