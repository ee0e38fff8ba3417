use Rattle.std.proofs.Common.{◌≤◌}
use Rattle.watches.proofs.parts.+part_at.Given as goal

abbrev pub invariant-loop-part : goal.invariant-loop-part
invariant-loop-part l = l.left ≤ l.left
