use Rattle.std.proofs.Common.{ℕ, ◌-◌, ◌<◌, ◌≤◌, length}
use Rattle.fixpoint.specs.Pairs.{names_at}
use Rattle.fixpoint.proofs.pairs.names_one.Given as goal

abbrev pub invariant-loop-i : goal.invariant-loop-i
invariant-loop-i l = (j : ℕ) → l.first ≤ j → j < l.i → length (names_at l.named (j - 1)) ≤ 1
