use Rattle.std.proofs.Common.{◌∙◌, sym, refl, arith}
use Rattle.linear_conditions.specs.Settled.{product_needs, products_need, sum_needs, sums_need}
use Rattle.rule_expand.specs.PlainView.{plain_product_view, plain_products_view, plain_sum_view, plain_sums_view}
use Rattle.rule_ground.proofs.Needed.{none-yet, one-found, none-left}
use Rattle.rule_ground.proofs.needs.+expr_needs.Goals as goal

pub sums_need-loop-step-preserved : goal.sums_need-loop-step-preserved
sums_need-loop-step-preserved t c =
    none-yet (λ x. sum_needs c.args.s (plain_sum_view x)) (λ xs. sums_need c.args.s (plain_sums_view xs)) (λ x xs. refl) c.args.steps.now c.loop-step.step-index c.step-item.result c.loop-step-test.true c.step-item.is
    (sym c.sum_needs.ensures ∙ c.if-sum_needs.false) c.loop-step.invariant

pub sums_need-returns-then-sum_needs : goal.sums_need-returns-then-sum_needs
sums_need-returns-then-sum_needs t c =
    one-found (λ x. sum_needs c.args.s (plain_sum_view x)) (λ xs. sums_need c.args.s (plain_sums_view xs)) (λ x xs. refl) c.args.steps.now c.loop-step.step-index c.step-item.result c.loop-step-test.true c.step-item.is
    (sym c.sum_needs.ensures ∙ c.if-sum_needs.true) c.loop-step.invariant

pub sums_need-returns : goal.sums_need-returns
sums_need-returns t c = none-left (λ xs. sums_need c.args.s (plain_sums_view xs)) refl c.args.steps.now c.loop-step.step-index (omega arith) c.loop-step.invariant

pub products_need-loop-step-preserved : goal.products_need-loop-step-preserved
products_need-loop-step-preserved t c =
    none-yet (λ x. product_needs c.args.s (plain_product_view x)) (λ xs. products_need c.args.s (plain_products_view xs)) (λ x xs. refl) c.args.steps.now c.loop-step.step-index c.step-item.result c.loop-step-test.true c.step-item.is
    (sym c.product_needs.ensures ∙ c.if-product_needs.false) c.loop-step.invariant

pub products_need-returns-then-product_needs : goal.products_need-returns-then-product_needs
products_need-returns-then-product_needs t c =
    one-found (λ x. product_needs c.args.s (plain_product_view x)) (λ xs. products_need c.args.s (plain_products_view xs)) (λ x xs. refl) c.args.steps.now c.loop-step.step-index c.step-item.result c.loop-step-test.true c.step-item.is
    (sym c.product_needs.ensures ∙ c.if-product_needs.true) c.loop-step.invariant

pub products_need-returns : goal.products_need-returns
products_need-returns t c = none-left (λ xs. products_need c.args.s (plain_products_view xs)) refl c.args.steps.now c.loop-step.step-index (omega arith) c.loop-step.invariant
