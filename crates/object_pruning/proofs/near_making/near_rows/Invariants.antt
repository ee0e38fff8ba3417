use Rattle.std.proofs.Common.{◌≡◌, ℕ, Some, map, length}
use Rattle.std.specs.Prelude.{slice_get}
use Rattle.object_pruning.specs.Near.{IsNearRow}
use Rattle.object_pruning.specs.Runs.{row}
use Rattle.object_pruning.specs.declared.near.Near.{Near}
use Rattle.object_pruning.proofs.near_making.near_rows.Given as goal

abbrev pub invariant-loop-r : goal.invariant-loop-r
invariant-loop-r g l = (length l.near.items ≡ l.r) × ((q : ℕ) (n : Near) → slice_get l.near.items q ≡ Some (Some n) → IsNearRow (map (λ x. x.cond) l.list) l.o.0 (row l.rows q) n)
