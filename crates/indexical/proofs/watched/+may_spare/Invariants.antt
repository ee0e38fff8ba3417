use Rattle.std.proofs.Common.{◌≤◌}
use Rattle.indexical.proofs.watched.+may_spare.Given as goal

abbrev pub invariant-loop-child : goal.invariant-loop-child
invariant-loop-child l = l.sparing ≤ l.child-index
