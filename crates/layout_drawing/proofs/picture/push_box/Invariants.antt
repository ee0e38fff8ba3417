use Rattle.std.proofs.Common.{◌≡◌, ◌++◌, drop}
use Rattle.std.specs.Prelude.{codes}
use Rattle.layout_drawing.specs.Blocks.{highs, lows}
use Rattle.layout_drawing.specs.Drawing.{ranges}
use Rattle.layout_drawing.proofs.picture.push_box.Given as goal

-- the ranges so far, and those of the rest, are all
abbrev pub invariant-loop-span : goal.invariant-loop-span
invariant-loop-span l = l.text.items ++ ranges (lows (drop l.span-index l.spans)) (highs (drop l.span-index l.spans))
    ≡ l.fn.text.items ++ (codes "box" ++ ranges (lows l.spans) (highs l.spans))
