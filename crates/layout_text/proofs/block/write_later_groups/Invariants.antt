use Rattle.std.proofs.Common.{take, drop}
use Rattle.std.specs.Prelude.{flat_map}
use Rattle.geo_chan.specs.Written.{Wrote}
use Rattle.layout_text.specs.Block.{later_group}
use Rattle.layout_text.proofs.block.write_later_groups.Given as goal

abbrev pub invariant-loop-k : goal.invariant-loop-k
invariant-loop-k g l = Wrote (g.W.Sink.written l.fn.sink) (g.W.Sink.written l.sink) (g.W.Sink.faults l.fn.sink) (g.W.Sink.faults l.sink) (g.W.Sink.quiet l.fn.sink) (g.W.Sink.quiet l.sink)
    (flat_map later_group (take l.k (drop 1 l.layout)))
