use Rattle.std.proofs.Common.{◌≤◌}
use Rattle.fixpoint.proofs.kept.last_asked.Given as goal

abbrev pub invariant-loop-before : goal.invariant-loop-before
invariant-loop-before l = (1 ≤ l.last) × (l.last ≤ l.before)
