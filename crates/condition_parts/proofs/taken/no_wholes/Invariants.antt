use Rattle.std.proofs.Common.{◌≡◌, replicate, None}
use Rattle.condition_parts.proofs.taken.no_wholes.Given as goal

abbrev pub invariant-loop : goal.invariant-loop
invariant-loop l = l.wholes.items ≡ replicate l.counter None
