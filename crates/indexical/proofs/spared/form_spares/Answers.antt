use Rattle.std.proofs.Common.{sym, ap, ◌∙◌, ◌+◌, ◌*◌, arith, ℤ, pos}
use Rattle.geo_base.specs.declared.TheConstants.{MAX_DIMS}
use Rattle.geo_conditions.specs.declared.object.TheConstants.{MAX_OBJECTS}
use Rattle.geo_conditions.proofs.Products.{kept, sum_fits}
use lib.Signed.{le_z}
use Rattle.geo_conditions.specs.declared.cond.Cond.{Lin}
use Rattle.indexical.proofs.Unnamed.{spares_unnamed}
use Rattle.indexical.proofs.spared.form_spares.Goals as goal

pub returns : goal.returns
returns g c = λ h s.
    spares_unnamed (Lin c.args.f.now) c.args.s.now c.args.o.0 s
    (sym c.is_in_form.ensures ∙ c.if-is_in_form.false) (sym (ap (λ (z : ℤ). le_z z (pos 0)) (kept c.least_value_of.result (sum_fits (MAX_OBJECTS * MAX_DIMS + 1) c.least_value_of.result (omega arith) c.least_value_of.ensures.bound) ∙ c.least_value_of.ensures.value)) ∙ h)
