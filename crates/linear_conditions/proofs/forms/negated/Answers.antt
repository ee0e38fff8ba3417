use Rattle.linear_conditions.specs.Views.{wide_view}
use Rattle.linear_conditions.proofs.FormSteps.{negated-made}
use Rattle.linear_conditions.proofs.forms.negated.Goals as goal

pub returns : goal.returns
returns c = negated-made (wide_view c.args.f.now) (wide_view c.in_ok-scaled.field-0) c.requires c.in_ok-scaled.ensures
