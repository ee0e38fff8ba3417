use Rattle.std.proofs.Common.{◌≡◌, ◌∙◌, ◌+◌, ℕ, List, ap, sym, map, length, subst, refl, arith}
use Rattle.std.specs.Prelude.{Option, Result, Err}
use Rattle.std.proofs.lemmas.Result.{err_from_is_err_and}
use Rattle.rule_syntax.specs.Tree as tree
use Rattle.rule_syntax.specs.View.{expr_view, sum_view, product_view, argument_view}
use Rattle.rule_syntax.specs.Tree.{ExprTree, SumTree, ProductTree}
use Rattle.problem_data.specs.Problem.{ProblemData}
use Rattle.rule_expand.specs.Plain as plain
use Rattle.rule_expand.specs.Plain.{PlainExprTree}
use Rattle.rule_expand.specs.Expansion.{Subst, Expansions, arguments_meant, expr_expanded, sums_expanded, products_expanded, expansions_of}
use Rattle.rule_expand.specs.Counts.{expr_nodes, expr_depth, sums_nodes, sums_depth, products_nodes, products_depth}
use Rattle.rule_expand.specs.Costs.{cost, sum_cost, product_cost, costs, costs_of}
use Rattle.rule_expand.specs.Limits.{GivesExpr}
use Rattle.rule_expand.specs.ScopeView.{scope_view, prices}
use Rattle.rule_expand.specs.Handed.{IsHandedIndex}
use Rattle.rule_expand.specs.declared.plain.PlainExpr.{PlainExpr}
use Rattle.rule_expand.specs.declared.plain.PlainSum.{PlainSum}
use Rattle.rule_expand.specs.declared.plain.PlainProd.{PlainProd}
use Rattle.rule_expand.specs.declared.limits.ExpandFault.{ExpandFault}
use Rattle.rule_expand.proofs.OneNode.{no-node, expr-lacks, negative-made, extreme-made, sum-made, product-made}
use Rattle.rule_expand.proofs.Scopes.{prices-parameters}
use Rattle.rule_expand.proofs.HandedOn.{argument-costs, call-handed}
use Rattle.rule_expand.proofs.Steps.{SumsSoFar, ProductsSoFar, sums-init, products-init, sums-step, sums-fault, sums-end, sums-cost-at, products-step, products-fault, products-end, products-cost-at, plus-made, plus-fault, minus-made, minus-fault, times-made, times-fault}
use Rattle.rule_syntax.proofs.Views.{num-seen, field-seen, param-seen, shape-seen, negative-seen, sum-seen, product-seen, least-seen, greatest-seen, call-seen, plus-seen, minus-seen, times-seen}
use Rattle.rule_expand.proofs.expressions.+expand.Goals as goal

given-as : (x : Expansions) (p : ProblemData) (sub : Subst) {u v : ExprTree} (room deep left : ℕ) (r : Result PlainExpr ExpandFault) → v ≡ u → GivesExpr (expr_expanded x p u sub) room deep left r → GivesExpr (expr_expanded x p v sub) room deep left r
given-as x p sub room deep l r e h = subst (λ v. GivesExpr (expr_expanded x p v sub) room deep l r) (sym e) h

pub expand_call-expand_expr-requires-in-None-handed_index : goal.expand_call-expand_expr-requires-in-None-handed_index
expand_call-expand_expr-requires-in-None-handed_index t c =
    let p = c.args.source.now.problem.now in
    let a = prices-parameters p c.in-Some.called.params c.args.args c.args.scope c.args.in_sight in
    let b = c.in-Some.ensures.ends (costs (costs_of p c.args.in_sight) p (tree.arguments (map argument_view c.args.args.now)) (prices p c.args.scope.now)) in
    let h = ap (cost (costs_of p c.in-Some.called.index) p (expr_view c.in-Some.called.body.now)) a ∙ sym b in
    (omega (arith, h), c.requires)

pub expand_call-expand_expr-requires : goal.expand_call-expand_expr-requires
expand_call-expand_expr-requires t c =
    let p = c.args.source.now.problem.now in
    let h = c.in-Some-handed_index.ensures.counted in
    let e = argument-costs (costs_of p c.args.in_sight) p (prices p c.args.scope.now) c.args.args.now c.in-Some-handed_index.i c.index-args-i.result h in
    (omega (arith, e), c.requires)

pub expand_call-returns-in-Some-handed_index : goal.expand_call-returns-in-Some-handed_index
expand_call-returns-in-Some-handed_index t c =
    let p = c.args.source.now.problem.now in
    let P : PlainExprTree → Type 0 = λ e. GivesExpr e c.args.room.now c.args.deep c.expand_expr.new.room c.expand_expr.result in
    let i : IsHandedIndex c.args.source.now.handed.items c.in-Some.called.index (length c.args.args.now) c.in-Some-handed_index.i =
    subst (λ (hs : List (Option ℕ)). IsHandedIndex hs c.in-Some.called.index (length c.args.args.now) c.in-Some-handed_index.i) c.as_slice.ensures.value c.in-Some-handed_index.ensures in
    subst P (sym (call-handed p c.args.source.now.handed.items (expansions_of p c.args.in_sight) c.args.in_sight c.in-Some.called.index c.in-Some-handed_index.i c.args.m.now.name (scope_view p c.args.scope.now) c.args.args.now c.index-args-i.result
    c.requires.handed i c.in-Some.ensures.at c.in-Some.ensures.in_sight)) c.expand_expr.ensures

pub expand_call-returns-in-None : goal.expand_call-returns-in-None
expand_call-returns-in-None t c =
    let p = c.args.source.now.problem.now in
    let P : PlainExprTree → Type 0 = λ e. GivesExpr e c.args.room.now c.args.deep c.number.new.room c.number.result in
    subst P (sym (c.in-None.ensures (arguments_meant (expansions_of p c.args.in_sight) p (tree.arguments (map argument_view c.args.args.now)) (scope_view p c.args.scope.now)))) c.number.ensures

pub expand_sum_steps-expand_sum_step-requires : goal.expand_sum_steps-expand_sum_step-requires
expand_sum_steps-expand_sum_step-requires t c =
    let h = sums-cost-at (costs_of c.args.source.now.problem.now c.args.in_sight) c.args.source.now.problem.now (prices c.args.source.now.problem.now c.args.scope.now) c.args.steps.now c.loop-step.step-index c.step-item.result c.loop-step-test.true c.step-item.is in
    (omega (arith, h), c.requires)

pub expand_sum_steps-returns-in_err-one : goal.expand_sum_steps-returns-in_err-one
expand_sum_steps-returns-in_err-one t c =
    let r = err_from_is_err_and c.from_residual.result c.from_residual.ensures.1 in
    rw (r.1, r.2) (sums-fault (expansions_of c.args.source.now.problem.now c.args.in_sight) c.args.source.now.problem.now (scope_view c.args.source.now.problem.now c.args.scope.now) c.args.steps.now c.loop-step.step-index c.args.room.now c.args.deep c.loop-step.room c.loop-step.made.items c.step-item.result _ c.loop-step.invariant c.loop-step-test.true c.step-item.is c.in_err-one.ensures)

pub expand_sum_steps-returns : goal.expand_sum_steps-returns
expand_sum_steps-returns t c =
    sums-end (expansions_of c.args.source.now.problem.now c.args.in_sight) c.args.source.now.problem.now (scope_view c.args.source.now.problem.now c.args.scope.now) c.args.steps.now c.loop-step.step-index c.args.room.now c.args.deep c.loop-step.room c.loop-step.made.items c.loop-step.invariant (omega arith)

pub expand_sum_steps-loop-step-preserved : goal.expand_sum_steps-loop-step-preserved
expand_sum_steps-loop-step-preserved t c =
    sums-step (expansions_of c.args.source.now.problem.now c.args.in_sight) c.args.source.now.problem.now (scope_view c.args.source.now.problem.now c.args.scope.now) c.args.steps.now c.loop-step.step-index c.args.room.now c.args.deep c.loop-step.room c.expand_sum_step.new.room c.loop-step.made.items c.add_sum.new.steps.items c.step-item.result c.in_ok-one.one c.loop-step.invariant c.loop-step-test.true c.step-item.is c.in_ok-one.ensures c.in_ok-add_sum.ensures

pub expand_product_steps-expand_product_step-requires : goal.expand_product_steps-expand_product_step-requires
expand_product_steps-expand_product_step-requires t c =
    let h = products-cost-at (costs_of c.args.source.now.problem.now c.args.in_sight) c.args.source.now.problem.now (prices c.args.source.now.problem.now c.args.scope.now) c.args.steps.now c.loop-step.step-index c.step-item.result c.loop-step-test.true c.step-item.is in
    (omega (arith, h), c.requires)

pub expand_product_steps-returns-in_err-one : goal.expand_product_steps-returns-in_err-one
expand_product_steps-returns-in_err-one t c =
    let r = err_from_is_err_and c.from_residual.result c.from_residual.ensures.1 in
    rw (r.1, r.2) (products-fault (expansions_of c.args.source.now.problem.now c.args.in_sight) c.args.source.now.problem.now (scope_view c.args.source.now.problem.now c.args.scope.now) c.args.steps.now c.loop-step.step-index c.args.room.now c.args.deep c.loop-step.room c.loop-step.made.items c.step-item.result _ c.loop-step.invariant c.loop-step-test.true c.step-item.is c.in_err-one.ensures)

pub expand_product_steps-returns : goal.expand_product_steps-returns
expand_product_steps-returns t c =
    products-end (expansions_of c.args.source.now.problem.now c.args.in_sight) c.args.source.now.problem.now (scope_view c.args.source.now.problem.now c.args.scope.now) c.args.steps.now c.loop-step.step-index c.args.room.now c.args.deep c.loop-step.room c.loop-step.made.items c.loop-step.invariant (omega arith)

pub expand_product_steps-loop-step-preserved : goal.expand_product_steps-loop-step-preserved
expand_product_steps-loop-step-preserved t c =
    products-step (expansions_of c.args.source.now.problem.now c.args.in_sight) c.args.source.now.problem.now (scope_view c.args.source.now.problem.now c.args.scope.now) c.args.steps.now c.loop-step.step-index c.args.room.now c.args.deep c.loop-step.room c.expand_product_step.new.room c.loop-step.made.items c.add_product.new.steps.items c.step-item.result c.in_ok-one.one c.loop-step.invariant c.loop-step-test.true c.step-item.is c.in_ok-one.ensures c.in_ok-add_product.ensures

pub expand_expr-returns-in-Num : goal.expand_expr-returns-in-Num
expand_expr-returns-in-Num t c =
    given-as (expansions_of c.args.source.now.problem.now c.args.in_sight) c.args.source.now.problem.now (scope_view c.args.source.now.problem.now c.args.scope.now) c.args.room.now c.args.deep _ _ (num-seen c.in-Num.field-0 c.in-Num.n c.in-Num.is) c.number.ensures

pub expand_expr-returns-in-Field : goal.expand_expr-returns-in-Field
expand_expr-returns-in-Field t c =
    given-as (expansions_of c.args.source.now.problem.now c.args.in_sight) c.args.source.now.problem.now (scope_view c.args.source.now.problem.now c.args.scope.now) c.args.room.now c.args.deep _ _ (field-seen c.in-Field.of c.in-Field.field-1 c.in-Field.name c.in-Field.is) c.expand_field.ensures

pub expand_expr-expand_param-requires : goal.expand_expr-expand_param-requires
expand_expr-expand_param-requires t c =
    let h = ap (λ (v : ExprTree). cost (costs_of c.args.source.now.problem.now c.args.in_sight) c.args.source.now.problem.now v (prices c.args.source.now.problem.now c.args.scope.now)) (param-seen c.in-Param.a c.in-Param.is) in
    (omega (arith, h), c.requires)

pub expand_expr-returns-in-Param : goal.expand_expr-returns-in-Param
expand_expr-returns-in-Param t c =
    given-as (expansions_of c.args.source.now.problem.now c.args.in_sight) c.args.source.now.problem.now (scope_view c.args.source.now.problem.now c.args.scope.now) c.args.room.now c.args.deep _ _ (param-seen c.in-Param.a c.in-Param.is) c.expand_param.ensures

pub expand_expr-returns-in-ShapeNum : goal.expand_expr-returns-in-ShapeNum
expand_expr-returns-in-ShapeNum t c =
    given-as (expansions_of c.args.source.now.problem.now c.args.in_sight) c.args.source.now.problem.now (scope_view c.args.source.now.problem.now c.args.scope.now) c.args.room.now c.args.deep _ _ (shape-seen c.in-ShapeNum.field-0 c.in-ShapeNum.a c.in-ShapeNum.is) c.expand_shape.ensures

pub expand_expr-expand_negative-requires : goal.expand_expr-expand_negative-requires
expand_expr-expand_negative-requires t c =
    let h = ap (λ (v : ExprTree). cost (costs_of c.args.source.now.problem.now c.args.in_sight) c.args.source.now.problem.now v (prices c.args.source.now.problem.now c.args.scope.now)) (negative-seen c.in-Neg.field-0 c.in-Neg.e c.in-Neg.is c.deref.ensures) in
    (omega (arith, h), c.requires)

pub expand_expr-returns-in-Neg : goal.expand_expr-returns-in-Neg
expand_expr-returns-in-Neg t c =
    given-as (expansions_of c.args.source.now.problem.now c.args.in_sight) c.args.source.now.problem.now (scope_view c.args.source.now.problem.now c.args.scope.now) c.args.room.now c.args.deep _ _ (negative-seen c.in-Neg.field-0 c.in-Neg.e c.in-Neg.is c.deref.ensures) c.expand_negative.ensures

pub expand_expr-expand_sum-requires : goal.expand_expr-expand_sum-requires
expand_expr-expand_sum-requires t c =
    let h = ap (λ (v : ExprTree). cost (costs_of c.args.source.now.problem.now c.args.in_sight) c.args.source.now.problem.now v (prices c.args.source.now.problem.now c.args.scope.now)) (sum-seen c.in-Sum.field-0 c.in-Sum.first c.in-Sum.steps c.in-Sum.is c.deref-in-Sum.ensures c.deref-in-Sum-2.ensures.value) in
    (omega (arith, h), c.requires)

pub expand_expr-returns-in-Sum : goal.expand_expr-returns-in-Sum
expand_expr-returns-in-Sum t c =
    given-as (expansions_of c.args.source.now.problem.now c.args.in_sight) c.args.source.now.problem.now (scope_view c.args.source.now.problem.now c.args.scope.now) c.args.room.now c.args.deep _ _ (sum-seen c.in-Sum.field-0 c.in-Sum.first c.in-Sum.steps c.in-Sum.is c.deref-in-Sum.ensures c.deref-in-Sum-2.ensures.value) c.expand_sum.ensures

pub expand_expr-expand_product-requires : goal.expand_expr-expand_product-requires
expand_expr-expand_product-requires t c =
    let h = ap (λ (v : ExprTree). cost (costs_of c.args.source.now.problem.now c.args.in_sight) c.args.source.now.problem.now v (prices c.args.source.now.problem.now c.args.scope.now)) (product-seen c.in-Prod.field-0 c.in-Prod.first c.in-Prod.steps c.in-Prod.is c.deref-in-Prod.ensures c.deref-in-Prod-2.ensures.value) in
    (omega (arith, h), c.requires)

pub expand_expr-returns-in-Prod : goal.expand_expr-returns-in-Prod
expand_expr-returns-in-Prod t c =
    given-as (expansions_of c.args.source.now.problem.now c.args.in_sight) c.args.source.now.problem.now (scope_view c.args.source.now.problem.now c.args.scope.now) c.args.room.now c.args.deep _ _ (product-seen c.in-Prod.field-0 c.in-Prod.first c.in-Prod.steps c.in-Prod.is c.deref-in-Prod.ensures c.deref-in-Prod-2.ensures.value) c.expand_product.ensures

pub expand_expr-expand_least-requires : goal.expand_expr-expand_least-requires
expand_expr-expand_least-requires t c =
    let h = ap (λ (v : ExprTree). cost (costs_of c.args.source.now.problem.now c.args.in_sight) c.args.source.now.problem.now v (prices c.args.source.now.problem.now c.args.scope.now)) (least-seen c.in-Min.field-0 c.in-Min.a c.in-Min.b c.in-Min.is c.deref-in-Min.ensures c.deref-in-Min-2.ensures) in
    (omega (arith, h), c.requires)

pub expand_expr-returns-in-Min : goal.expand_expr-returns-in-Min
expand_expr-returns-in-Min t c =
    given-as (expansions_of c.args.source.now.problem.now c.args.in_sight) c.args.source.now.problem.now (scope_view c.args.source.now.problem.now c.args.scope.now) c.args.room.now c.args.deep _ _ (least-seen c.in-Min.field-0 c.in-Min.a c.in-Min.b c.in-Min.is c.deref-in-Min.ensures c.deref-in-Min-2.ensures) c.expand_least.ensures

pub expand_expr-expand_greatest-requires : goal.expand_expr-expand_greatest-requires
expand_expr-expand_greatest-requires t c =
    let h = ap (λ (v : ExprTree). cost (costs_of c.args.source.now.problem.now c.args.in_sight) c.args.source.now.problem.now v (prices c.args.source.now.problem.now c.args.scope.now)) (greatest-seen c.in-Max.field-0 c.in-Max.a c.in-Max.b c.in-Max.is c.deref-in-Max.ensures c.deref-in-Max-2.ensures) in
    (omega (arith, h), c.requires)

pub expand_expr-returns-in-Max : goal.expand_expr-returns-in-Max
expand_expr-returns-in-Max t c =
    given-as (expansions_of c.args.source.now.problem.now c.args.in_sight) c.args.source.now.problem.now (scope_view c.args.source.now.problem.now c.args.scope.now) c.args.room.now c.args.deep _ _ (greatest-seen c.in-Max.field-0 c.in-Max.a c.in-Max.b c.in-Max.is c.deref-in-Max.ensures c.deref-in-Max-2.ensures) c.expand_greatest.ensures

pub expand_expr-expand_call-requires : goal.expand_expr-expand_call-requires
expand_expr-expand_call-requires t c =
    let h = ap (λ (v : ExprTree). cost (costs_of c.args.source.now.problem.now c.args.in_sight) c.args.source.now.problem.now v (prices c.args.source.now.problem.now c.args.scope.now)) (call-seen c.in-CallValue.field-0 c.in-CallValue.m c.in-CallValue.args c.in-CallValue.is c.deref-in-CallValue.ensures.value) in
    (omega (arith, h), c.requires)

pub expand_expr-returns-in-CallValue : goal.expand_expr-returns-in-CallValue
expand_expr-returns-in-CallValue t c =
    given-as (expansions_of c.args.source.now.problem.now c.args.in_sight) c.args.source.now.problem.now (scope_view c.args.source.now.problem.now c.args.scope.now) c.args.room.now c.args.deep _ _ (call-seen c.in-CallValue.field-0 c.in-CallValue.m c.in-CallValue.args c.in-CallValue.is c.deref-in-CallValue.ensures.value) c.expand_call.ensures

pub expand_sum_step-expand_expr-requires : goal.expand_sum_step-expand_expr-requires
expand_sum_step-expand_expr-requires t c =
    let h = ap (λ (v : SumTree). sum_cost (costs_of c.args.source.now.problem.now c.args.in_sight) c.args.source.now.problem.now v (prices c.args.source.now.problem.now c.args.scope.now)) (plus-seen c.in-Plus.e c.in-Plus.is) in
    (omega (arith, h), c.requires)

pub expand_sum_step-returns-in_err-expand_expr-in-Plus : goal.expand_sum_step-returns-in_err-expand_expr-in-Plus
expand_sum_step-returns-in_err-expand_expr-in-Plus t c =
    let r = err_from_is_err_and c.from_residual.result c.from_residual.ensures.1 in
    plus-fault (expansions_of c.args.source.now.problem.now c.args.in_sight) c.args.source.now.problem.now (scope_view c.args.source.now.problem.now c.args.scope.now) c.in-Plus.e c.args.room.now c.args.deep _ c.from_residual.result _ c.in-Plus.is (r.1 ∙ ap (λ (f : ExpandFault). Err f) r.2) (c.in_err-expand_expr-in-Plus.ensures {u = tt})

pub expand_sum_step-returns-in_ok-expand_expr-in-Plus : goal.expand_sum_step-returns-in_ok-expand_expr-in-Plus
expand_sum_step-returns-in_ok-expand_expr-in-Plus t c =
    plus-made (expansions_of c.args.source.now.problem.now c.args.in_sight) c.args.source.now.problem.now (scope_view c.args.source.now.problem.now c.args.scope.now) c.in-Plus.e c.args.room.now c.args.deep _ c.in_ok-expand_expr-in-Plus.field-0 c.in-Plus.is (c.in_ok-expand_expr-in-Plus.ensures {u = tt})

pub expand_sum_step-expand_expr-requires-in-Minus : goal.expand_sum_step-expand_expr-requires-in-Minus
expand_sum_step-expand_expr-requires-in-Minus t c =
    let h = ap (λ (v : SumTree). sum_cost (costs_of c.args.source.now.problem.now c.args.in_sight) c.args.source.now.problem.now v (prices c.args.source.now.problem.now c.args.scope.now)) (minus-seen c.in-Minus.e c.in-Minus.is) in
    (omega (arith, h), c.requires)

pub expand_sum_step-returns-in_err-expand_expr-in-Minus : goal.expand_sum_step-returns-in_err-expand_expr-in-Minus
expand_sum_step-returns-in_err-expand_expr-in-Minus t c =
    let r = err_from_is_err_and c.from_residual-in_err-expand_expr-in-Minus.result c.from_residual-in_err-expand_expr-in-Minus.ensures.1 in
    minus-fault (expansions_of c.args.source.now.problem.now c.args.in_sight) c.args.source.now.problem.now (scope_view c.args.source.now.problem.now c.args.scope.now) c.in-Minus.e c.args.room.now c.args.deep _ c.from_residual-in_err-expand_expr-in-Minus.result _ c.in-Minus.is (r.1 ∙ ap (λ (f : ExpandFault). Err f) r.2) (c.in_err-expand_expr-in-Minus.ensures {u = tt})

pub expand_sum_step-returns-in_ok-expand_expr-in-Minus : goal.expand_sum_step-returns-in_ok-expand_expr-in-Minus
expand_sum_step-returns-in_ok-expand_expr-in-Minus t c =
    minus-made (expansions_of c.args.source.now.problem.now c.args.in_sight) c.args.source.now.problem.now (scope_view c.args.source.now.problem.now c.args.scope.now) c.in-Minus.e c.args.room.now c.args.deep _ c.in_ok-expand_expr-in-Minus.field-0 c.in-Minus.is (c.in_ok-expand_expr-in-Minus.ensures {u = tt})

pub expand_product_step-expand_expr-requires : goal.expand_product_step-expand_expr-requires
expand_product_step-expand_expr-requires t c =
    let h = ap (λ (v : ProductTree). product_cost (costs_of c.args.source.now.problem.now c.args.in_sight) c.args.source.now.problem.now v (prices c.args.source.now.problem.now c.args.scope.now)) (times-seen c.in-Times.e c.in-Times.is) in
    (omega (arith, h), c.requires)

pub expand_product_step-returns-in_err-expand_expr-in-Times : goal.expand_product_step-returns-in_err-expand_expr-in-Times
expand_product_step-returns-in_err-expand_expr-in-Times t c =
    let r = err_from_is_err_and c.from_residual.result c.from_residual.ensures.1 in
    times-fault (expansions_of c.args.source.now.problem.now c.args.in_sight) c.args.source.now.problem.now (scope_view c.args.source.now.problem.now c.args.scope.now) c.in-Times.e c.args.room.now c.args.deep _ c.from_residual.result _ c.in-Times.is (r.1 ∙ ap (λ (f : ExpandFault). Err f) r.2) (c.in_err-expand_expr-in-Times.ensures {u = tt})

pub expand_product_step-returns-in_ok-expand_expr-in-Times : goal.expand_product_step-returns-in_ok-expand_expr-in-Times
expand_product_step-returns-in_ok-expand_expr-in-Times t c =
    times-made (expansions_of c.args.source.now.problem.now c.args.in_sight) c.args.source.now.problem.now (scope_view c.args.source.now.problem.now c.args.scope.now) c.in-Times.e c.args.room.now c.args.deep _ c.in_ok-expand_expr-in-Times.field-0 c.in-Times.is (c.in_ok-expand_expr-in-Times.ensures {u = tt})

pub expand_negative-expand_expr-requires : goal.expand_negative-expand_expr-requires
expand_negative-expand_expr-requires t c = (omega arith, c.requires)

pub expand_negative-returns-in_err-inner : goal.expand_negative-returns-in_err-inner
expand_negative-returns-in_err-inner t c =
    let p = c.args.source.now.problem.now in
    let sub = scope_view p c.args.scope.now in
    let e = expr_expanded (expansions_of p c.args.in_sight) p (expr_view c.args.e.now) sub in
    let k = c.if-not-take_node.ensures {u = tt} in
    let r = err_from_is_err_and c.from_residual.result c.from_residual.ensures.1 in
    expr-lacks (plain.negative e) (expr_nodes e) (expr_depth e) 1 c.args.room.now c.take_node.new.room c.args.deep c.expand_expr.new.room _ c.from_residual.result (r.1 ∙ ap (λ (f : ExpandFault). Err f) r.2) k.0 (omega arith) (omega arith) k.1 (c.in_err-inner.ensures {u = tt})

pub expand_negative-returns : goal.expand_negative-returns
expand_negative-returns t c =
    let p = c.args.source.now.problem.now in
    let sub = scope_view p c.args.scope.now in
    negative-made (expr_expanded (expansions_of p c.args.in_sight) p (expr_view c.args.e.now) sub) c.args.room.now c.take_node.new.room c.args.deep c.expand_expr.new.room c.in_ok-inner.inner c.negative.result (c.if-not-take_node.ensures {u = tt}) (c.in_ok-inner.ensures {u = tt}) c.negative.ensures

pub expand_least-expand_expr-requires : goal.expand_least-expand_expr-requires
expand_least-expand_expr-requires t c = (omega arith, c.requires)

pub expand_least-returns-in_err-left : goal.expand_least-returns-in_err-left
expand_least-returns-in_err-left t c =
    let p = c.args.source.now.problem.now in
    let sub = scope_view p c.args.scope.now in
    let a = expr_expanded (expansions_of p c.args.in_sight) p (expr_view c.args.a.now) sub in
    let b = expr_expanded (expansions_of p c.args.in_sight) p (expr_view c.args.b.now) sub in
    let k = c.if-not-take_node.ensures {u = tt} in
    let r = err_from_is_err_and c.from_residual.result c.from_residual.ensures.1 in
    expr-lacks (plain.least a b) (expr_nodes a) (expr_depth a) 1 c.args.room.now c.take_node.new.room c.args.deep c.expand_expr.new.room _ c.from_residual.result (r.1 ∙ ap (λ (f : ExpandFault). Err f) r.2) k.0 (omega arith) (omega arith) k.1 (c.in_err-left.ensures {u = tt})

pub expand_least-expand_expr-requires-2 : goal.expand_least-expand_expr-requires-2
expand_least-expand_expr-requires-2 t c = (omega arith, c.requires)

pub expand_least-returns-in_err-right : goal.expand_least-returns-in_err-right
expand_least-returns-in_err-right t c =
    let p = c.args.source.now.problem.now in
    let sub = scope_view p c.args.scope.now in
    let a = expr_expanded (expansions_of p c.args.in_sight) p (expr_view c.args.a.now) sub in
    let b = expr_expanded (expansions_of p c.args.in_sight) p (expr_view c.args.b.now) sub in
    let k = c.if-not-take_node.ensures {u = tt} in
    let r = err_from_is_err_and c.from_residual-in_err-right.result c.from_residual-in_err-right.ensures.1 in
    let n = (c.in_ok-left.ensures {u = tt}).taken in
    expr-lacks (plain.least a b) (expr_nodes b) (expr_depth b) (1 + expr_nodes a) c.args.room.now c.expand_expr.new.room c.args.deep c.expand_expr-2.new.room _ c.from_residual-in_err-right.result (r.1 ∙ ap (λ (f : ExpandFault). Err f) r.2) (let z = k.0 in omega arith) (omega arith) (omega arith) k.1 (c.in_err-right.ensures {u = tt})

pub expand_least-returns : goal.expand_least-returns
expand_least-returns t c =
    let p = c.args.source.now.problem.now in
    let sub = scope_view p c.args.scope.now in
    let a = expr_expanded (expansions_of p c.args.in_sight) p (expr_view c.args.a.now) sub in
    let b = expr_expanded (expansions_of p c.args.in_sight) p (expr_view c.args.b.now) sub in
    extreme-made plain.least a b c.args.room.now c.take_node.new.room c.expand_expr.new.room c.args.deep c.expand_expr-2.new.room c.in_ok-left.left c.in_ok-right.right c.least.result refl refl (c.if-not-take_node.ensures {u = tt}) (c.in_ok-left.ensures {u = tt}) (c.in_ok-right.ensures {u = tt}) c.least.ensures

pub expand_greatest-expand_expr-requires : goal.expand_greatest-expand_expr-requires
expand_greatest-expand_expr-requires t c = (omega arith, c.requires)

pub expand_greatest-returns-in_err-left : goal.expand_greatest-returns-in_err-left
expand_greatest-returns-in_err-left t c =
    let p = c.args.source.now.problem.now in
    let sub = scope_view p c.args.scope.now in
    let a = expr_expanded (expansions_of p c.args.in_sight) p (expr_view c.args.a.now) sub in
    let b = expr_expanded (expansions_of p c.args.in_sight) p (expr_view c.args.b.now) sub in
    let k = c.if-not-take_node.ensures {u = tt} in
    let r = err_from_is_err_and c.from_residual.result c.from_residual.ensures.1 in
    expr-lacks (plain.greatest a b) (expr_nodes a) (expr_depth a) 1 c.args.room.now c.take_node.new.room c.args.deep c.expand_expr.new.room _ c.from_residual.result (r.1 ∙ ap (λ (f : ExpandFault). Err f) r.2) k.0 (omega arith) (omega arith) k.1 (c.in_err-left.ensures {u = tt})

pub expand_greatest-expand_expr-requires-2 : goal.expand_greatest-expand_expr-requires-2
expand_greatest-expand_expr-requires-2 t c = (omega arith, c.requires)

pub expand_greatest-returns-in_err-right : goal.expand_greatest-returns-in_err-right
expand_greatest-returns-in_err-right t c =
    let p = c.args.source.now.problem.now in
    let sub = scope_view p c.args.scope.now in
    let a = expr_expanded (expansions_of p c.args.in_sight) p (expr_view c.args.a.now) sub in
    let b = expr_expanded (expansions_of p c.args.in_sight) p (expr_view c.args.b.now) sub in
    let k = c.if-not-take_node.ensures {u = tt} in
    let r = err_from_is_err_and c.from_residual-in_err-right.result c.from_residual-in_err-right.ensures.1 in
    let n = (c.in_ok-left.ensures {u = tt}).taken in
    expr-lacks (plain.greatest a b) (expr_nodes b) (expr_depth b) (1 + expr_nodes a) c.args.room.now c.expand_expr.new.room c.args.deep c.expand_expr-2.new.room _ c.from_residual-in_err-right.result (r.1 ∙ ap (λ (f : ExpandFault). Err f) r.2) (let z = k.0 in omega arith) (omega arith) (omega arith) k.1 (c.in_err-right.ensures {u = tt})

pub expand_greatest-returns : goal.expand_greatest-returns
expand_greatest-returns t c =
    let p = c.args.source.now.problem.now in
    let sub = scope_view p c.args.scope.now in
    let a = expr_expanded (expansions_of p c.args.in_sight) p (expr_view c.args.a.now) sub in
    let b = expr_expanded (expansions_of p c.args.in_sight) p (expr_view c.args.b.now) sub in
    extreme-made plain.greatest a b c.args.room.now c.take_node.new.room c.expand_expr.new.room c.args.deep c.expand_expr-2.new.room c.in_ok-left.left c.in_ok-right.right c.greatest.result refl refl (c.if-not-take_node.ensures {u = tt}) (c.in_ok-left.ensures {u = tt}) (c.in_ok-right.ensures {u = tt}) c.greatest.ensures

pub expand_sum-expand_expr-requires : goal.expand_sum-expand_expr-requires
expand_sum-expand_expr-requires t c = (omega arith, c.requires)

pub expand_sum-returns-in_err-start : goal.expand_sum-returns-in_err-start
expand_sum-returns-in_err-start t c =
    let p = c.args.source.now.problem.now in
    let sub = scope_view p c.args.scope.now in
    let a = expr_expanded (expansions_of p c.args.in_sight) p (expr_view c.args.first.now) sub in
    let b = sums_expanded (expansions_of p c.args.in_sight) p (tree.sums (map sum_view c.args.steps.now)) sub in
    let k = c.if-not-take_node.ensures {u = tt} in
    let r = err_from_is_err_and c.from_residual.result c.from_residual.ensures.1 in
    expr-lacks (plain.sum a b) (expr_nodes a) (expr_depth a) 1 c.args.room.now c.take_node.new.room c.args.deep c.expand_expr.new.room _ c.from_residual.result (r.1 ∙ ap (λ (f : ExpandFault). Err f) r.2) k.0 (omega arith) (omega arith) k.1 (c.in_err-start.ensures {u = tt})

pub expand_sum-expand_sum_steps-requires : goal.expand_sum-expand_sum_steps-requires
expand_sum-expand_sum_steps-requires t c = (omega arith, c.requires)

pub expand_sum-returns-in_err-others : goal.expand_sum-returns-in_err-others
expand_sum-returns-in_err-others t c =
    let p = c.args.source.now.problem.now in
    let sub = scope_view p c.args.scope.now in
    let a = expr_expanded (expansions_of p c.args.in_sight) p (expr_view c.args.first.now) sub in
    let b = sums_expanded (expansions_of p c.args.in_sight) p (tree.sums (map sum_view c.args.steps.now)) sub in
    let k = c.if-not-take_node.ensures {u = tt} in
    let r = err_from_is_err_and c.from_residual-in_err-others.result c.from_residual-in_err-others.ensures.1 in
    let n = (c.in_ok-start.ensures {u = tt}).taken in
    expr-lacks (plain.sum a b) (sums_nodes b) (sums_depth b) (1 + expr_nodes a) c.args.room.now c.expand_expr.new.room c.args.deep c.expand_sum_steps.new.room _ c.from_residual-in_err-others.result (r.1 ∙ ap (λ (f : ExpandFault). Err f) r.2) (let z = k.0 in omega arith) (omega arith) (omega arith) k.1 (c.in_err-others.ensures {u = tt})

pub expand_sum-returns : goal.expand_sum-returns
expand_sum-returns t c =
    let p = c.args.source.now.problem.now in
    let sub = scope_view p c.args.scope.now in
    let a = expr_expanded (expansions_of p c.args.in_sight) p (expr_view c.args.first.now) sub in
    let b = sums_expanded (expansions_of p c.args.in_sight) p (tree.sums (map sum_view c.args.steps.now)) sub in
    sum-made a b c.args.room.now c.take_node.new.room c.expand_expr.new.room c.args.deep c.expand_sum_steps.new.room c.in_ok-start.start c.in_ok-others.others.items c.sum.result (c.if-not-take_node.ensures {u = tt}) (c.in_ok-start.ensures {u = tt}) (c.in_ok-others.ensures {u = tt}) c.sum.ensures

pub expand_product-expand_expr-requires : goal.expand_product-expand_expr-requires
expand_product-expand_expr-requires t c = (omega arith, c.requires)

pub expand_product-returns-in_err-start : goal.expand_product-returns-in_err-start
expand_product-returns-in_err-start t c =
    let p = c.args.source.now.problem.now in
    let sub = scope_view p c.args.scope.now in
    let a = expr_expanded (expansions_of p c.args.in_sight) p (expr_view c.args.first.now) sub in
    let b = products_expanded (expansions_of p c.args.in_sight) p (tree.products (map product_view c.args.steps.now)) sub in
    let k = c.if-not-take_node.ensures {u = tt} in
    let r = err_from_is_err_and c.from_residual.result c.from_residual.ensures.1 in
    expr-lacks (plain.product a b) (expr_nodes a) (expr_depth a) 1 c.args.room.now c.take_node.new.room c.args.deep c.expand_expr.new.room _ c.from_residual.result (r.1 ∙ ap (λ (f : ExpandFault). Err f) r.2) k.0 (omega arith) (omega arith) k.1 (c.in_err-start.ensures {u = tt})

pub expand_product-expand_product_steps-requires : goal.expand_product-expand_product_steps-requires
expand_product-expand_product_steps-requires t c = (omega arith, c.requires)

pub expand_product-returns-in_err-others : goal.expand_product-returns-in_err-others
expand_product-returns-in_err-others t c =
    let p = c.args.source.now.problem.now in
    let sub = scope_view p c.args.scope.now in
    let a = expr_expanded (expansions_of p c.args.in_sight) p (expr_view c.args.first.now) sub in
    let b = products_expanded (expansions_of p c.args.in_sight) p (tree.products (map product_view c.args.steps.now)) sub in
    let k = c.if-not-take_node.ensures {u = tt} in
    let r = err_from_is_err_and c.from_residual-in_err-others.result c.from_residual-in_err-others.ensures.1 in
    let n = (c.in_ok-start.ensures {u = tt}).taken in
    expr-lacks (plain.product a b) (products_nodes b) (products_depth b) (1 + expr_nodes a) c.args.room.now c.expand_expr.new.room c.args.deep c.expand_product_steps.new.room _ c.from_residual-in_err-others.result (r.1 ∙ ap (λ (f : ExpandFault). Err f) r.2) (let z = k.0 in omega arith) (omega arith) (omega arith) k.1 (c.in_err-others.ensures {u = tt})

pub expand_product-returns : goal.expand_product-returns
expand_product-returns t c =
    let p = c.args.source.now.problem.now in
    let sub = scope_view p c.args.scope.now in
    let a = expr_expanded (expansions_of p c.args.in_sight) p (expr_view c.args.first.now) sub in
    let b = products_expanded (expansions_of p c.args.in_sight) p (tree.products (map product_view c.args.steps.now)) sub in
    product-made a b c.args.room.now c.take_node.new.room c.expand_expr.new.room c.args.deep c.expand_product_steps.new.room c.in_ok-start.start c.in_ok-others.others.items c.product.result (c.if-not-take_node.ensures {u = tt}) (c.in_ok-start.ensures {u = tt}) (c.in_ok-others.ensures {u = tt}) c.product.ensures

pub expand_negative-returns-then-not-take_node : goal.expand_negative-returns-then-not-take_node
expand_negative-returns-then-not-take_node t c = no-node _ _ _ _ (omega arith) (omega arith) (c.if-not-take_node.ensures {u = tt})

pub expand_least-returns-then-not-take_node : goal.expand_least-returns-then-not-take_node
expand_least-returns-then-not-take_node t c = no-node _ _ _ _ (omega arith) (omega arith) (c.if-not-take_node.ensures {u = tt})

pub expand_greatest-returns-then-not-take_node : goal.expand_greatest-returns-then-not-take_node
expand_greatest-returns-then-not-take_node t c = no-node _ _ _ _ (omega arith) (omega arith) (c.if-not-take_node.ensures {u = tt})

pub expand_sum-returns-then-not-take_node : goal.expand_sum-returns-then-not-take_node
expand_sum-returns-then-not-take_node t c = no-node _ _ _ _ (omega arith) (omega arith) (c.if-not-take_node.ensures {u = tt})

pub expand_product-returns-then-not-take_node : goal.expand_product-returns-then-not-take_node
expand_product-returns-then-not-take_node t c = no-node _ _ _ _ (omega arith) (omega arith) (c.if-not-take_node.ensures {u = tt})

pub expand_sum_steps-loop-step-init : goal.expand_sum_steps-loop-step-init
expand_sum_steps-loop-step-init t c = subst (λ (made : List PlainSum). SumsSoFar (expansions_of c.args.source.now.problem.now c.args.in_sight) c.args.source.now.problem.now (scope_view c.args.source.now.problem.now c.args.scope.now) c.args.steps.now 0 c.args.room.now c.args.deep c.args.room.now made) (sym c.new-made.ensures.items) (sums-init (expansions_of c.args.source.now.problem.now c.args.in_sight) c.args.source.now.problem.now (scope_view c.args.source.now.problem.now c.args.scope.now) c.args.steps.now c.args.room.now c.args.deep)

pub expand_sum_steps-returns-in_err-add_sum : goal.expand_sum_steps-returns-in_err-add_sum
expand_sum_steps-returns-in_err-add_sum t c =
    let r = err_from_is_err_and c.from_residual-in_err-add_sum.result c.from_residual-in_err-add_sum.ensures.1 in
    rw (r.1, r.2, c.in_err-add_sum.ensures {u = tt}) tt

pub expand_product_steps-loop-step-init : goal.expand_product_steps-loop-step-init
expand_product_steps-loop-step-init t c = subst (λ (made : List PlainProd). ProductsSoFar (expansions_of c.args.source.now.problem.now c.args.in_sight) c.args.source.now.problem.now (scope_view c.args.source.now.problem.now c.args.scope.now) c.args.steps.now 0 c.args.room.now c.args.deep c.args.room.now made) (sym c.new-made.ensures.items) (products-init (expansions_of c.args.source.now.problem.now c.args.in_sight) c.args.source.now.problem.now (scope_view c.args.source.now.problem.now c.args.scope.now) c.args.steps.now c.args.room.now c.args.deep)

pub expand_product_steps-returns-in_err-add_product : goal.expand_product_steps-returns-in_err-add_product
expand_product_steps-returns-in_err-add_product t c =
    let r = err_from_is_err_and c.from_residual-in_err-add_product.result c.from_residual-in_err-add_product.ensures.1 in
    rw (r.1, r.2, c.in_err-add_product.ensures {u = tt}) tt
