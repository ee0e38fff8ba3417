use Rattle.layout_drawing.proofs.Ends.{Extents}
use Rattle.layout_drawing.proofs.frame.least_box.Given as goal

-- the spans of the dimensions so far
abbrev pub invariant-loop-d : goal.invariant-loop-d
invariant-loop-d l = Extents l.blocks l.d l.spans.items
