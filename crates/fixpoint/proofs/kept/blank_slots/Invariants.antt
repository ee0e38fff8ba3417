use Rattle.std.proofs.Common.{◌≡◌, ℕ, None, get_or}
use Rattle.fixpoint.proofs.kept.blank_slots.Given as goal

abbrev pub invariant-loop : goal.invariant-loop
invariant-loop g l = (i : ℕ) → get_or l.blank.items i None ≡ None
