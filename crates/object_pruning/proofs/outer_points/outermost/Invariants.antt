use Rattle.std.specs.Prelude.{true, map, ◌+◌, ◌≡◌, ℤ}
use Rattle.derivation.specs.Events.{HasGrown}
use Rattle.sweep.specs.Picks.{picked}
use Rattle.object_pruning.specs.Record.{IsNotBeyond, AreListedBelow}
use Rattle.object_pruning.proofs.Ends.{IsBest}
use Rattle.object_pruning.proofs.outer_points.outermost.Given as goal

abbrev pub invariant-loop-before : goal.invariant-loop-before
invariant-loop-before g l = record {
  best : IsBest (picked (map g.I.Indexical.cond l.list) l.picks) l.s l.o.0 l.d l.up (l.before + 1) l.best;
  listed : g.R.Recorder.keeps ≡ true → (v : ℤ) → IsNotBeyond l.d l.up v l.best
      → AreListedBelow (map g.I.Indexical.cond l.list) l.s l.o.0 l.d l.up v (l.before + 1) (g.R.Recorder.list l.fn.rec) (g.R.Recorder.list l.rec);
  grows : HasGrown g.R.Recorder.keeps g.R.Recorder.list g.R.Recorder.refusals l.fn.rec l.rec;
}
