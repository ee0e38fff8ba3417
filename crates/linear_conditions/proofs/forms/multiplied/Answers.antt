use Rattle.std.proofs.Common.{ℤ, FitsSigned, to_z-of_z, ◌∙◌, sym, subst}
use Rattle.std.specs.Int.{w128}
use Rattle.linear_conditions.specs.Room.{CanScale}
use Rattle.linear_conditions.specs.Views.{wide_view}
use Rattle.linear_conditions.proofs.FormSteps.{can-multiply}
use Rattle.linear_conditions.proofs.forms.multiplied.Goals as goal

pub scaled-requires : goal.scaled-requires
scaled-requires c =
    let fits : FitsSigned w128 c.constant.result = record { sfits = c.constant.type_inv } in
    subst (λ (y : ℤ). CanScale y (wide_view c.args.f.now)) (sym (to_z-of_z fits ∙ c.constant.ensures)) (can-multiply (wide_view c.args.f.now) (wide_view c.args.g.now) c.requires.f c.requires.g)

pub scaled-requires-else-has_terms : goal.scaled-requires-else-has_terms
scaled-requires-else-has_terms c =
    let fits : FitsSigned w128 c.constant-else-has_terms.result = record { sfits = c.constant-else-has_terms.type_inv } in
    subst (λ (y : ℤ). CanScale y (wide_view c.args.g.now)) (sym (to_z-of_z fits ∙ c.constant-else-has_terms.ensures)) (can-multiply (wide_view c.args.g.now) (wide_view c.args.f.now) c.requires.g c.requires.f)
