use Rattle.std.proofs.Common.{rules, ◌≡◌, ℕ, true, subst}
use Rattle.std.proofs.lemmas.Result.{on_ok_weaker}
use Rattle.geo_conditions.specs.Reach.{Region, has}
use Rattle.geo_conditions.specs.Regions.{region_of}
use Rattle.geo_conditions.specs.Supported.{HasNoPoint}
use Rattle.derivation.specs.PlaceCovers.{RecordedCovers}
use Rattle.derivation.proofs.Listings.{gone_closed}
use Rattle.plain_propagate.specs.Points.{IsSmallRegion}
use Rattle.plain_propagate.proofs.Recorded.{gone_none, small_region}
use Rattle.derivation.proofs.Continuing.{growth_on, growth_failed}
use Rattle.plain_propagate.proofs.recording.record_gone.Goals as goal

pub record_places-requires : goal.record_places-requires
record_places-requires g c =
    let none : (n : ℕ) → has c.args.s.now c.args.o.0 n ≡ true → HasNoPoint c.args.cs.now c.args.s.now c.args.o.0 n (region_of c.region-region.result) = gone_none c.args.cs.now c.args.s.now c.args.o.0 (region_of c.region-region.result) c.region-region.ensures.value c.requires.lacks in
    let small : IsSmallRegion (region_of c.region-region.result) = small_region c.args.s.now c.args.o.0 _ c.requires.small c.region-region.ensures.value in
    search rules

pub returns-clause-closed : goal.returns-clause-closed
returns-clause-closed g c = on_ok_weaker c.record_places.result (λ ok kept.
    gone_closed c.args.cs.now c.args.s.now c.args.o.0 (g.R.Recorder.list c.args.rec.now) (g.R.Recorder.list c.record_event.new.rec) (g.R.Recorder.list c.record_places.new.rec) c.requires.lacks.object (c.in_ok-record_event.ensures.added kept)
    (subst (λ (b : Region). RecordedCovers c.args.cs.now c.args.s.now c.args.o.0 b (g.R.Recorder.list c.record_event.new.rec) (g.R.Recorder.list c.record_places.new.rec)) c.region-region.ensures.value (ok kept))) c.record_places.ensures.covers

pub returns-in_err-record_event-clause-grows : goal.returns-in_err-record_event-clause-grows
returns-in_err-record_event-clause-grows g c = growth_failed c.in_err-record_event.ensures.grows _ c.from_residual.ensures.0

pub returns-clause-grows : goal.returns-clause-grows
returns-clause-grows g c = growth_on c.in_ok-record_event.ensures.grows c.record_places.ensures.grows
