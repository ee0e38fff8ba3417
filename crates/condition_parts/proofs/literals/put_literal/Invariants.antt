use Rattle.std.proofs.Common.{◌≤◌, length}
use Rattle.condition_parts.proofs.literals.put_literal.Given as goal

abbrev pub invariant-loop-at : goal.invariant-loop-at
invariant-loop-at l = l.at ≤ length l.literals.items

abbrev pub decreases-loop-at : goal.decreases-loop-at
decreases-loop-at l = l.at
