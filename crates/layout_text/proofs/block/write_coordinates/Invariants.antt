use Rattle.std.proofs.Common.{take}
use Rattle.std.specs.Prelude.{flat_map}
use Rattle.geo_base.specs.Tuple.{spot}
use Rattle.geo_chan.specs.Written.{Wrote}
use Rattle.layout_text.specs.Block.{behind}
use Rattle.layout_text.proofs.block.write_coordinates.Given as goal

abbrev pub invariant-loop-d : goal.invariant-loop-d
invariant-loop-d g l = Wrote (g.W.Sink.written l.fn.sink) (g.W.Sink.written l.sink) (g.W.Sink.faults l.fn.sink) (g.W.Sink.faults l.sink) (g.W.Sink.quiet l.fn.sink) (g.W.Sink.quiet l.sink)
    (flat_map (behind l.mark) (take l.d (spot l.layout l.o.0).origin))
