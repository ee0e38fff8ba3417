use Rattle.std.proofs.Common.{◌≡◌}
use Rattle.condition_parts.proofs.literals.children_of.Given as goal

abbrev pub invariant-loop-c : goal.invariant-loop-c
invariant-loop-c l = l.children.items.items ≡ l.yielded
