-- The form's invariant, of the terms as they are kept.
use Rattle.std.proofs.Common.{List, ℤ, sym, subst, to_z-of_z}
use Rattle.geo_conditions.specs.Form.{IsForm}
use Rattle.geo_conditions.specs.declared.form.Term.{Term}
use Rattle.geo_conditions.proofs.form.Form.new.Goals as goal

pub invariant_of-result : goal.invariant_of-result
invariant_of-result c =
    subst (λ (z : ℤ). IsForm c.in_ok-list.list.items z) (sym (to_z-of_z c.ranges.constant))
    (subst (λ (terms : List Term). IsForm terms c.args.constant) (sym c.in_ok-list.ensures) c.requires)
