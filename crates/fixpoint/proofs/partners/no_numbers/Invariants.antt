use Rattle.std.proofs.Common.{◌≡◌, ℕ, [], length}
use Rattle.fixpoint.specs.Links.{row}
use Rattle.fixpoint.proofs.partners.no_numbers.Given as goal

abbrev pub invariant-loop : goal.invariant-loop
invariant-loop l = (length l.few.items ≡ l.counter) × ((u : ℕ) → row l.few.items u ≡ [])
