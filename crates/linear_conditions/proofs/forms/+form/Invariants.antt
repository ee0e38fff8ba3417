use Rattle.linear_conditions.proofs.FormSteps.{SumsLeft, ProductsLeft}
use Rattle.linear_conditions.specs.Views.{fixings_view, wide_view}
use Rattle.rule_values.specs.View.{env_view}
use Rattle.linear_conditions.proofs.forms.+form.Given as goal

abbrev pub invariant-sum-loop-step : goal.invariant-sum-loop-step
invariant-sum-loop-step l = SumsLeft l.problem (env_view l.env) (fixings_view l.fixings) (wide_view l.initial.total) l.steps l.step-index (wide_view l.total)

abbrev pub invariant-product-loop-step : goal.invariant-product-loop-step
invariant-product-loop-step l = ProductsLeft l.problem (env_view l.env) (fixings_view l.fixings) (wide_view l.initial.so_far) l.steps l.step-index (wide_view l.so_far)
