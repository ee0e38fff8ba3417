use Rattle.rule_expand.proofs.Degrees.{SumsLeft, ProductsLeft}
use Rattle.rule_expand.proofs.degree.+degree.Given as goal

abbrev pub invariant-sums_degree-loop-step : goal.invariant-sums_degree-loop-step
invariant-sums_degree-loop-step l = SumsLeft l.steps l.step-index l.degree.coordinates l.degree.broken

abbrev pub invariant-products_degree-loop-step : goal.invariant-products_degree-loop-step
invariant-products_degree-loop-step l = ProductsLeft l.left l.steps l.step-index l.degree.coordinates l.degree.broken
