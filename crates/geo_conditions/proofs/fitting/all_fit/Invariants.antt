use Rattle.std.proofs.Common.{ℕ, ◌<◌, get_or}
use Rattle.geo_conditions.specs.declared.cond.Cond.{Cond}
use Rattle.geo_conditions.specs.Conditions.{FitsIn}
use Rattle.geo_conditions.proofs.fitting.all_fit.Given as goal

abbrev pub invariant-loop-c : goal.invariant-loop-c
invariant-loop-c g l = (i : ℕ) → i < l.c-index → (d : Cond) → FitsIn (get_or l.conds i d) l.s
