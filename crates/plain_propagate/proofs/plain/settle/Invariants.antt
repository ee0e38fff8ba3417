use Rattle.std.proofs.Common.{◌≡◌, true}
use Rattle.geo_conditions.specs.Keeps.{size}
use Rattle.derivation.specs.Chains.{IsLed}
use Rattle.derivation.specs.Events.{HasGrown}
use Rattle.plain_propagate.proofs.Narrowed.{Going}
use Rattle.plain_propagate.proofs.Blaming.{Begins}
use Rattle.plain_propagate.proofs.plain.settle.Given as goal

abbrev pub invariant-passes : goal.invariant-passes
invariant-passes g l = record {
  going : Going l.cs l.fn.t.state l.t.state;
  levels : (l.t.levels ≡ l.fn.t.levels) × (l.t.restores ≡ l.fn.t.restores);
  recorded : g.R.Recorder.keeps ≡ true → IsLed l.cs l.fn.t.state l.t.state (g.R.Recorder.list l.fn.rec) (g.R.Recorder.list l.rec);
  begun : g.R.Recorder.keeps ≡ true → Begins l.cs l.fn.t.state l.t.state (g.R.Recorder.list l.fn.rec) (g.R.Recorder.list l.rec);
  grows : HasGrown g.R.Recorder.keeps g.R.Recorder.list g.R.Recorder.refusals l.fn.rec l.rec;
}

abbrev pub decreases-passes : goal.decreases-passes
decreases-passes g l = size l.t.state
