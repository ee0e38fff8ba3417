use Rattle.std.proofs.lemmas.Result.{on_ok_weaker}
use Rattle.geo_conditions.specs.Regions.{region_of}
use Rattle.plain_propagate.proofs.Recorded.{cover_refuted}
use Rattle.derivation.proofs.Continuing.{growth_none}
use Rattle.plain_propagate.proofs.recording.record_refuted.Goals as goal

pub returns-in-Some-clause-cover : goal.returns-in-Some-clause-cover
returns-in-Some-clause-cover g c = on_ok_weaker c.record_event.result (λ ok kept.
    cover_refuted c.args.cs.now c.args.s.now c.args.o.0 c.args.place c.in-Some.i (region_of c.args.b.now) (g.R.Recorder.list c.args.rec.now) (g.R.Recorder.list c.record_event.new.rec) c.in-Some.ensures.found (ok kept)) c.record_event.ensures.added

pub returns-in-None-clause-grows : goal.returns-in-None-clause-grows
returns-in-None-clause-grows g c = growth_none _ _ _

pub returns-in-Some-clause-grows : goal.returns-in-Some-clause-grows
returns-in-Some-clause-grows g c = c.record_event.ensures.grows
