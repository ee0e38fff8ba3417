use Rattle.std.proofs.Common.{◌+◌, ◌<◌, ◌≤ℤ◌, ℕ}
use Rattle.geo_base.specs.Boxes.{coordinate}
use Rattle.layout_drawing.specs.Blocks.{high_of, low_of}
use Rattle.layout_drawing.proofs.row.reaches.Given as goal

-- the coordinates so far lie in the spans of the block
abbrev pub invariant-loop-i : goal.invariant-loop-i
invariant-loop-i l = (d : ℕ) → d < l.i → (low_of l.block (d + 1) ≤ℤ coordinate l.others d) × (coordinate l.others d ≤ℤ high_of l.block (d + 1))
