use Rattle.std.proofs.Common.{◌≡◌, ◌*◌, ◌≤◌, drop}
use Rattle.layout_drawing.specs.Blocks.{highs, lows}
use Rattle.layout_drawing.specs.Drawing.{cell_count, most_cells}
use Rattle.layout_drawing.proofs.frame.is_small.Given as goal

-- the cells of the dimensions so far, times those of the rest, are all
abbrev pub invariant-loop-span : goal.invariant-loop-span
invariant-loop-span l = record {
  product : l.count * cell_count (lows (drop l.span-index l.spans)) (highs (drop l.span-index l.spans)) ≡ cell_count (lows l.spans) (highs l.spans);
  few : l.count ≤ most_cells;
}
