use Rattle.std.proofs.Common.{take, length}
use Rattle.std.specs.Prelude.{flat_map}
use Rattle.std.specs.List.{range_with_len}
use Rattle.geo_chan.specs.Written.{Wrote}
use Rattle.layout_text.specs.Block.{line_of}
use Rattle.layout_text.proofs.block.write_lines.Given as goal

abbrev pub invariant-loop-o : goal.invariant-loop-o
invariant-loop-o g l = Wrote (g.W.Sink.written l.fn.sink) (g.W.Sink.written l.sink) (g.W.Sink.faults l.fn.sink) (g.W.Sink.faults l.sink) (g.W.Sink.quiet l.fn.sink) (g.W.Sink.quiet l.sink)
    (flat_map (line_of l.problem l.layout) (take l.o (range_with_len 0 (length l.layout))))
