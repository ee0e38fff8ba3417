use Rattle.layout_drawing.proofs.Owned.{Added}
use Rattle.layout_drawing.proofs.blocks.push_blocks.Given as goal

-- the blocks of the boxes so far came
abbrev pub invariant-loop-part : goal.invariant-loop-part
invariant-loop-part l = Added l.problem l.layout l.o.0 l.part-index l.fn.into.items l.into.items
