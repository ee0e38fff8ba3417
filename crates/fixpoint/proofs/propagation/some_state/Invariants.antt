use Rattle.std.proofs.Common.{◌≡◌, length}
use Rattle.fixpoint.proofs.propagation.some_state.Given as goal

abbrev pub invariant-loop : goal.invariant-loop
invariant-loop g l = length l.s ≡ l.counter
