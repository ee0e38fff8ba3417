use Rattle.std.proofs.Common.{◌≡◌, ℕ, [], length}
use Rattle.object_pruning.specs.InRows.{row}
use Rattle.object_pruning.proofs.row_making.empty_rows.Given as goal

abbrev pub invariant-loop : goal.invariant-loop
invariant-loop l = (length l.rows.items ≡ l.counter) × ((r : ℕ) → row l.rows.items r ≡ [])
