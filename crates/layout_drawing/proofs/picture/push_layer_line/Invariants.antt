use Rattle.std.proofs.Common.{◌≡◌, ◌++◌, take}
use Rattle.std.specs.Prelude.{codes}
use Rattle.layout_text.specs.Block.{coordinates}
use Rattle.layout_drawing.proofs.picture.push_layer_line.Given as goal

-- the coordinates so far
abbrev pub invariant-loop-number : goal.invariant-loop-number
invariant-loop-number l = l.text.items ≡ l.fn.text.items ++ (codes "layer" ++ coordinates (codes " ") (take l.number-index l.outer))
