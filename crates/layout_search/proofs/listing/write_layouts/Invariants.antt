use Rattle.std.proofs.Common.{◌≡◌, List, length}
use Rattle.geo_base.specs.Tuple.{Tuple}
use Rattle.geo_chan.specs.Written.{Wrote}
use Rattle.problem_data.specs.Cells.{IsShaped}
use Rattle.layout_search.specs.Page.{blocks_of}
use Rattle.layout_search.proofs.Listed.{HasListed}
use Rattle.layout_search.proofs.listing.write_layouts.Given as goal

-- the layouts that were found are written
abbrev pub invariant-listing : goal.invariant-listing
invariant-listing g l =
    (ts : List Tuple) × (length ts ≡ l.listed) × HasListed l.problem l.fn.search.walk l.fn.search.budget l.search ts
    × IsShaped l.problem l.layout × Wrote (g.W.Sink.written l.fn.sink) (g.W.Sink.written l.sink) (g.W.Sink.faults l.fn.sink) (g.W.Sink.faults l.sink) (g.W.Sink.quiet l.fn.sink) (g.W.Sink.quiet l.sink) (blocks_of l.problem ts)
