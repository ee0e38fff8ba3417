use Rattle.std.proofs.Common.{◌≡◌, ◌<◌, ◌≤◌, ℕ, false, get_or}
use Rattle.fixpoint.proofs.queue.pop.Given as goal

abbrev pub invariant-ahead : goal.invariant-ahead
invariant-ahead l = ((u : ℕ) → l.fn.from ≤ u → u < l.o → get_or l.queued u false ≡ false) × (l.queued ≡ l.fn.queued)

abbrev pub invariant-around : goal.invariant-around
invariant-around l = ((u : ℕ) → l.fn.from ≤ u → get_or l.queued u false ≡ false) × ((u : ℕ) → u < l.o → get_or l.queued u false ≡ false) × (l.queued ≡ l.fn.queued)
