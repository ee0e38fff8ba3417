use Rattle.std.proofs.Common.{◌≡◌, ℕ, [], length}
use Rattle.fixpoint.specs.Links.{row}
use Rattle.fixpoint.proofs.pairs.no_groups.Given as goal

abbrev pub invariant-loop : goal.invariant-loop
invariant-loop l = (length l.groups.items ≡ l.counter) × ((u : ℕ) → row l.groups.items u ≡ [])
