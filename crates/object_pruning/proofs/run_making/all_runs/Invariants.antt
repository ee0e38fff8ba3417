use Rattle.std.proofs.Common.{◌≡◌, ℕ, ◌<◌, length}
use Rattle.object_pruning.specs.Runs.{AreRuns, row}
use Rattle.object_pruning.proofs.run_making.all_runs.Given as goal

abbrev pub invariant-loop-r : goal.invariant-loop-r
invariant-loop-r l = (length l.runs.items ≡ l.r) × ((q : ℕ) → q < l.r → AreRuns (row l.rows q) (row l.runs.items q))
