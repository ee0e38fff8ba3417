use Rattle.std.proofs.Common.{drop, ◌+ℤ◌}
use Rattle.rule_expand.specs.PlainTruth.{plain_products, plain_sums}
use Rattle.rule_expand.specs.PlainView.{plain_products_view, plain_sums_view}
use Rattle.rule_values.specs.View.{env_view}
use Rattle.geo_meaning.proofs.Left.{ProductsLeft, SumsLeft}
use Rattle.geo_meaning.proofs.numbers.+number.Given as goal

abbrev pub invariant-product-loop-step : goal.invariant-product-loop-step
invariant-product-loop-step l = ProductsLeft l.problem l.layout (env_view l.env) (plain_products_view (drop l.step-index l.steps)) l.so_far (plain_products l.problem l.layout l.first (plain_products_view l.steps) (env_view l.env))

abbrev pub invariant-sum-loop-step : goal.invariant-sum-loop-step
invariant-sum-loop-step l = SumsLeft l.problem l.layout (env_view l.env) (plain_sums_view (drop l.step-index l.steps)) l.so_far (l.first +ℤ plain_sums l.problem l.layout (plain_sums_view l.steps) (env_view l.env))
