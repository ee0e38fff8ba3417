use Rattle.std.proofs.Common.{◌≡◌, length}
use Rattle.trail_arena.specs.Places.{IsRow}
use Rattle.trail_arena.proofs.block.clear.Given as goal

abbrev pub invariant-loop-left : goal.invariant-loop-left
invariant-loop-left g l = (l.cells.at ≡ l.fn.cells.at) × IsRow l.cells.slots l.left (length l.fn.cells.slots)

abbrev pub decreases-loop-left : goal.decreases-loop-left
decreases-loop-left g l = l.left
