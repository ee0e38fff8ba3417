use Rattle.std.proofs.Common.{◌≡◌, true, List, subst, IfOk}
use Rattle.geo_conditions.specs.declared.cond.Cond.{Cond}
use Rattle.geo_state.specs.Settle.{BlamesFirst}
use Rattle.plain_propagate.proofs.plain.PlainPropagatePropagate.settle.Goals as goal

pub returns-clause-blame : goal.returns-clause-blame
returns-clause-blame g c =
    subst (λ (cs : List Cond). IfOk c.settle.result (λ a. g.R.Recorder.keeps ≡ true → BlamesFirst cs c.args.t.now.state (g.R.Recorder.list c.args.rec.now) (g.R.Recorder.list c.settle.new.rec))) c.deref.ensures.value c.settle.ensures.blame
