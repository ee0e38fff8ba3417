use Rattle.std.proofs.Common.{ℕ, ◌≡◌, ◌<◌, false, get_or}
use Rattle.linear_conditions.specs.declared.wide.WideTerm.{WideTerm}
use Rattle.linear_conditions.specs.Views.{wide_term}
use Rattle.linear_conditions.proofs.Places.{belongs}
use Rattle.linear_conditions.proofs.wide.place_for.Given as goal

abbrev pub invariant-loop-place : goal.invariant-loop-place
invariant-loop-place l = (k : ℕ) → k < l.place → (d : WideTerm) → belongs (wide_term l.a) (wide_term (get_or l.terms k d)) ≡ false
