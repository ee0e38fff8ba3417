use Rattle.std.proofs.Common.{◌≡◌, drop}
use Rattle.linear_conditions.specs.Settled.{products_need, sums_need}
use Rattle.rule_expand.specs.PlainView.{plain_products_view, plain_sums_view}
use Rattle.rule_ground.proofs.needs.+expr_needs.Given as goal

abbrev pub invariant-products_need-loop-step : goal.invariant-products_need-loop-step
invariant-products_need-loop-step l = products_need l.s (plain_products_view (drop l.step-index l.steps)) ≡ products_need l.s (plain_products_view l.steps)

abbrev pub invariant-sums_need-loop-step : goal.invariant-sums_need-loop-step
invariant-sums_need-loop-step l = sums_need l.s (plain_sums_view (drop l.step-index l.steps)) ≡ sums_need l.s (plain_sums_view l.steps)
