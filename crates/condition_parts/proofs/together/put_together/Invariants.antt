use Rattle.std.proofs.Common.{◌≡◌, map}
use Rattle.condition_parts.proofs.Wholes.{whole_at}
use Rattle.condition_parts.proofs.together.put_together.Given as goal

abbrev pub invariant-loop-whole : goal.invariant-loop-whole
invariant-loop-whole g l = l.conditions.items ≡ map (whole_at {k = g.row.K}) l.yielded
