use Rattle.std.proofs.Common.{◌≢◌, ℕ, ◌<◌, map}
use Rattle.fixpoint.specs.Near.{UnhinderedBy}
use Rattle.object_pruning.specs.InRows.{IsInGroup}
use Rattle.fixpoint.proofs.waking.may_hinder.Given as goal

abbrev pub invariant-loop-i : goal.invariant-loop-i
invariant-loop-i g l = (o : ℕ) → o ≢ l.u.0 → UnhinderedBy (map (λ x. x.cond) l.list) l.s (λ i. IsInGroup l.group i × (i < l.i)) o
