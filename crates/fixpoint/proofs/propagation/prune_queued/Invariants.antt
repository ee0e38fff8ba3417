use Rattle.std.proofs.Common.{◌≡◌, ◌≤◌, true, map, length}
use Rattle.derivation.specs.Events.{HasGrown}
use Rattle.geo_state.specs.declared.propagate.Settled.TheVariants.{Kept}
use Rattle.geo_state.specs.Settle.{Records}
use Rattle.fixpoint.specs.Kept.{AllStand}
use Rattle.fixpoint.specs.Marks.{IsSquare}
use Rattle.fixpoint.proofs.Turns.{Going, measure}
use Rattle.watches.specs.Watches.{Hold}
use Rattle.fixpoint.proofs.propagation.prune_queued.Given as goal

abbrev pub invariant-loop-o : goal.invariant-loop-o
invariant-loop-o g l = record {
  going : Going (map (λ x. x.cond) l.list) l.fn.t.state l.t.state l.queued;
  next : l.next ≤ length l.queued;
  levels : (l.t.levels ≡ l.fn.t.levels) × (l.t.restores ≡ l.fn.t.restores);
  square : IsSquare (length l.fn.queued) l.dirty;
  stand : AllStand (map (λ x. x.cond) l.list) l.t.state l.dirty l.kept;
  hold : Hold (map (λ x. x.cond) l.list) l.t.state l.watches;
  recorded : g.R.Recorder.keeps ≡ true → Records (map (λ x. x.cond) l.list) l.fn.t.state Kept l.t.state (g.R.Recorder.list l.fn.rec) (g.R.Recorder.list l.rec);
  grows : HasGrown g.R.Recorder.keeps g.R.Recorder.list g.R.Recorder.refusals l.fn.rec l.rec;
}

abbrev pub decreases-loop-o : goal.decreases-loop-o
decreases-loop-o g l = measure l.t.state l.queued
