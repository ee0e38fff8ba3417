use Rattle.linear_conditions.proofs.FormSteps.{ProductsLeft}
use Rattle.linear_conditions.proofs.SideSteps.{SumHeld}
use Rattle.linear_conditions.specs.Views.{fixings_view, short_view}
use Rattle.rule_values.specs.View.{env_view}
use Rattle.linear_conditions.proofs.sides.+side.Given as goal

abbrev pub invariant-sum_side-loop-step : goal.invariant-sum_side-loop-step
invariant-sum_side-loop-step l = SumHeld l.problem (env_view l.env) (fixings_view l.fixings) (short_view l.initial.total) l.steps l.step-index (short_view l.total)

abbrev pub invariant-product_side-loop-step : goal.invariant-product_side-loop-step
invariant-product_side-loop-step l = ProductsLeft l.problem (env_view l.env) (fixings_view l.fixings) (short_view l.initial.so_far) l.steps l.step-index (short_view l.so_far)
