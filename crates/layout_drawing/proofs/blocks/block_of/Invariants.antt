use Rattle.geo_base.specs.Tuple.{spot}
use Rattle.layout_drawing.proofs.Ends.{AreEnds}
use Rattle.layout_drawing.proofs.blocks.block_of.Given as goal

-- the spans of the dimensions so far
abbrev pub invariant-loop-d : goal.invariant-loop-d
invariant-loop-d l = AreEnds l.part (spot l.layout l.o.0).origin l.d l.spans.items
