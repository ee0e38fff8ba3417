use Rattle.std.specs.Prelude.{true, map, ◌≡◌}
use Rattle.derivation.specs.Events.{HasGrown}
use Rattle.sweep.specs.Picks.{picked}
use Rattle.object_pruning.specs.Ends.{CanMove}
use Rattle.object_pruning.specs.Kept.{AllSupport}
use Rattle.derivation.specs.Chains.{IsLed}
use Rattle.object_pruning.proofs.Ends.{MovesBelow}
use Rattle.object_pruning.proofs.move_ends.move_ends.Given as goal

abbrev pub invariant-loop-d : goal.invariant-loop-d
invariant-loop-d g l = record {
  moves : MovesBelow (picked (map g.I.Indexical.cond l.list) l.picks) l.o.0 l.d l.fn.t.state l.moved l.t.state;
  led : g.R.Recorder.keeps ≡ true → IsLed (map g.I.Indexical.cond l.list) l.fn.t.state l.t.state (g.R.Recorder.list l.fn.rec) (g.R.Recorder.list l.rec);
  can : CanMove (map g.I.Indexical.cond l.list) (picked (map g.I.Indexical.cond l.list) l.picks) l.t.state l.o.0;
  kept : AllSupport (picked (map g.I.Indexical.cond l.list) l.picks) l.t.state l.o.0 l.kept;
  levels : l.t.levels ≡ l.fn.t.levels;
  restores : l.t.restores ≡ l.fn.t.restores;
  grows : HasGrown g.R.Recorder.keeps g.R.Recorder.list g.R.Recorder.refusals l.fn.rec l.rec;
}
