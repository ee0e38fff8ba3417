use Rattle.layout_drawing.proofs.Ends.{Hull}
use Rattle.layout_drawing.proofs.frame.extent.Given as goal

-- the span holds the blocks so far, and each of its ends is that of a block
abbrev pub invariant-loop-block : goal.invariant-loop-block
invariant-loop-block l = Hull l.blocks l.d l.block-index l.span
