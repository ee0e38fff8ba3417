use Rattle.std.proofs.Common.{ℕ, ◌<◌, get_or}
use Rattle.geo_conditions.specs.declared.form.Term.{Term}
use Rattle.geo_conditions.specs.Reach.{Exists}
use Rattle.geo_conditions.proofs.fitting.form_fits.Given as goal

abbrev pub invariant-loop-term : goal.invariant-loop-term
invariant-loop-term g l = (i : ℕ) → i < l.term-index → (d : Term) → Exists l.s (get_or l.term-items i d).object.0 (get_or l.term-items i d).dimension
