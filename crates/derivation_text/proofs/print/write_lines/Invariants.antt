use Rattle.std.proofs.Common.{◌≡◌, ◌++◌, List, ℕ, drop}
use Rattle.geo_chan.specs.Written.{Wrote}
use Rattle.derivation_text.specs.Lines.{lines_of, AreNamed}
use Rattle.derivation_text.proofs.print.write_lines.Given as goal

-- what was written and what the page holds are together the lines of the events so far
abbrev pub invariant-loop-e : goal.invariant-loop-e
invariant-loop-e g l = record {
  named : AreNamed l.names l.o.0 (drop l.e-index l.events);
  done : (front : List ℕ) × (lines_of l.names 0 l.events ≡ front ++ (l.page ++ lines_of l.names l.o.0 (drop l.e-index l.events)))
      × Wrote (g.W.Sink.written l.fn.sink) (g.W.Sink.written l.sink) (g.W.Sink.faults l.fn.sink) (g.W.Sink.faults l.sink) (g.W.Sink.quiet l.fn.sink) (g.W.Sink.quiet l.sink) front;
}
