use Rattle.std.proofs.Common.{◌≡◌}
use Rattle.linear_conditions.proofs.fold.children_of.Given as goal

abbrev pub invariant-loop-c : goal.invariant-loop-c
invariant-loop-c l = l.children.items.items ≡ l.yielded
