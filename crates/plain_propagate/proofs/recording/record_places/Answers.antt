use Rattle.std.proofs.Common.{arith}
use Rattle.std.proofs.lemmas.Result.{on_ok_weaker}
use Rattle.geo_conditions.specs.Regions.{region_of}
use Rattle.derivation.proofs.Listings.{recorded_end}
use Rattle.derivation.proofs.Continuing.{growth_on, growth_failed}
use Rattle.plain_propagate.proofs.recording.record_places.Goals as goal

pub returns-clause-covers : goal.returns-clause-covers
returns-clause-covers g c = on_ok_weaker c.record_event.result (λ ok kept.
    recorded_end c.args.cs.now c.args.s.now c.args.o.0 (region_of c.args.b.now) c.loop-place.place (g.R.Recorder.list c.args.rec.now) (g.R.Recorder.list c.loop-place.rec) (g.R.Recorder.list c.record_event.new.rec)
    (omega (arith, c.region-region.ensures.places, c.loop-place-test.false)) (ok kept) (c.loop-place.invariant.recorded kept)) c.record_event.ensures.added

pub returns-in_err-record_place-clause-grows : goal.returns-in_err-record_place-clause-grows
returns-in_err-record_place-clause-grows g c = growth_failed (growth_on c.loop-place.invariant.grows c.in_err-record_place.ensures.grows) _ c.from_residual.ensures.0

pub returns-clause-grows : goal.returns-clause-grows
returns-clause-grows g c = growth_on c.loop-place.invariant.grows c.record_event.ensures.grows
