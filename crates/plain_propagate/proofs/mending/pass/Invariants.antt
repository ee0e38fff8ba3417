use Rattle.std.proofs.Common.{◌≡◌, true}
use Rattle.derivation.specs.Chains.{IsLed}
use Rattle.derivation.specs.Events.{HasGrown}
use Rattle.plain_propagate.proofs.Narrowed.{Going, Unless, FineBelow}
use Rattle.plain_propagate.proofs.mending.pass.Given as goal

abbrev pub invariant-loop-o : goal.invariant-loop-o
invariant-loop-o g l = record {
  going : Going l.cs l.fn.t.state l.t.state;
  unless : Unless l.changed l.cs l.fn.t.state l.t.state;
  fine : FineBelow l.changed l.cs l.t.state l.o;
  levels : (l.t.levels ≡ l.fn.t.levels) × (l.t.restores ≡ l.fn.t.restores);
  recorded : g.R.Recorder.keeps ≡ true → IsLed l.cs l.fn.t.state l.t.state (g.R.Recorder.list l.fn.rec) (g.R.Recorder.list l.rec);
  grows : HasGrown g.R.Recorder.keeps g.R.Recorder.list g.R.Recorder.refusals l.fn.rec l.rec;
}
