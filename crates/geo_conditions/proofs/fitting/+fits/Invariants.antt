use Rattle.std.proofs.Common.{ℕ, ◌<◌, get_or}
use Rattle.geo_conditions.specs.declared.cond.Cond.{Cond}
use Rattle.geo_conditions.specs.Conditions.{FitsIn}
use Rattle.geo_conditions.proofs.fitting.+fits.Given as goal

abbrev pub invariant-loop-child : goal.invariant-loop-child
invariant-loop-child g l = (i : ℕ) → i < l.child-index → (d : Cond) → FitsIn (get_or l.child-items i d) l.s
