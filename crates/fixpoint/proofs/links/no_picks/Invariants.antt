use Rattle.std.proofs.Common.{◌≡◌, ℕ, [], length}
use Rattle.fixpoint.specs.Links.{row}
use Rattle.fixpoint.proofs.links.no_picks.Given as goal

abbrev pub invariant-loop : goal.invariant-loop
invariant-loop l = (length l.picks.items ≡ l.counter) × ((o : ℕ) → row l.picks.items o ≡ [])
