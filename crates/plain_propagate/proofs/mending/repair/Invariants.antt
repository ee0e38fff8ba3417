use Rattle.std.proofs.Common.{◌≡◌, true}
use Rattle.geo_conditions.specs.Keeps.{size}
use Rattle.derivation.specs.Chains.{IsLed}
use Rattle.derivation.specs.Events.{HasGrown}
use Rattle.plain_propagate.proofs.Narrowed.{Going, Unless}
use Rattle.plain_propagate.proofs.mending.repair.Given as goal

abbrev pub invariant-loop-defect : goal.invariant-loop-defect
invariant-loop-defect g l = record {
  going : Going l.cs l.fn.t.state l.t.state;
  unless : Unless l.changed l.cs l.fn.t.state l.t.state;
  levels : (l.t.levels ≡ l.fn.t.levels) × (l.t.restores ≡ l.fn.t.restores);
  recorded : g.R.Recorder.keeps ≡ true → IsLed l.cs l.fn.t.state l.t.state (g.R.Recorder.list l.fn.rec) (g.R.Recorder.list l.rec);
  grows : HasGrown g.R.Recorder.keeps g.R.Recorder.list g.R.Recorder.refusals l.fn.rec l.rec;
}

abbrev pub decreases-loop-defect : goal.decreases-loop-defect
decreases-loop-defect g l = size l.t.state
