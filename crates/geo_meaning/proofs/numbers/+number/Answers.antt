use Rattle.std.proofs.Common.{rules}
use Rattle.rule_values.specs.View.{env_view}
use Rattle.geo_meaning.proofs.Steps.{products-step, sums-step}
use Rattle.geo_meaning.proofs.numbers.+number.Goals as goal

pub sum-loop-step-preserved : goal.sum-loop-step-preserved
sum-loop-step-preserved t c =
    sums-step c.args.problem.now c.args.layout.now (env_view c.args.env.now) c.args.steps.now c.loop-step.step-index c.step-item.result _ _ _ c.loop-step-test.true c.step-item.is c.loop-step.invariant (search rules)

pub product-loop-step-preserved : goal.product-loop-step-preserved
product-loop-step-preserved t c =
    products-step c.args.problem.now c.args.layout.now (env_view c.args.env.now) c.args.steps.now c.loop-step.step-index c.step-item.result _ _ _ c.loop-step-test.true c.step-item.is c.loop-step.invariant (search rules)
