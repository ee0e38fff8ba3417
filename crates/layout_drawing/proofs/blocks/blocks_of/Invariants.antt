use Rattle.layout_drawing.proofs.Owned.{AreBelow}
use Rattle.layout_drawing.proofs.blocks.blocks_of.Given as goal

-- the blocks of the objects so far
abbrev pub invariant-loop-o : goal.invariant-loop-o
invariant-loop-o l = AreBelow l.problem l.layout l.o l.blocks.items
