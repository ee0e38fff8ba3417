use Rattle.std.proofs.Common.{rules, ◌≡◌, true, refl, set, subst}
use Rattle.std.proofs.lemmas.Result.{on_ok_weaker}
use Rattle.geo_conditions.specs.Reach.{Region, reach, without}
use Rattle.geo_conditions.specs.Regions.{region_of}
use Rattle.geo_conditions.specs.Supported.{HasNoPoint}
use Rattle.derivation.specs.Covers.{covers}
use Rattle.derivation.proofs.Listings.{drop_led}
use Rattle.plain_propagate.specs.Points.{IsSmallRegion}
use Rattle.plain_propagate.proofs.Recorded.{small_region, place_none}
use Rattle.derivation.proofs.Continuing.{growth_on, growth_failed}
use Rattle.plain_propagate.proofs.recording.record_drop.Goals as goal

pub record_points-requires : goal.record_points-requires
record_points-requires g c =
    let small : IsSmallRegion (region_of c.region-region.result) = small_region c.args.s.now c.args.o.0 _ c.requires.small c.region-region.ensures.value in
    let none : HasNoPoint c.args.cs.now c.args.s.now c.args.o.0 c.args.place (region_of c.region-region.result) = place_none c.args.cs.now c.args.s.now c.args.o.0 c.args.place (region_of c.region-region.result) c.region-region.ensures.value c.requires.lacks in
    search rules

pub returns-clause-led : goal.returns-clause-led
returns-clause-led g c = on_ok_weaker c.record_points.result (λ ok kept.
    let cs = c.args.cs.now in
    let S = c.args.s.now in
    let o = c.args.o.0 in
    let s = c.args.place in
    let t = ok kept in
    drop_led cs S (set S o (without (reach S o) s)) o s t.tree (g.R.Recorder.list c.args.rec.now) (g.R.Recorder.list c.record_event.new.rec) (g.R.Recorder.list c.record_points.new.rec) c.requires.lacks.there
    (subst (λ (b : Region). covers cs S o s b t.tree ≡ true) c.region-region.ensures.value t.covered) t.numbers (c.in_ok-record_event.ensures.added kept) t.events refl) c.record_points.ensures.cover

pub returns-in_err-record_event-clause-grows : goal.returns-in_err-record_event-clause-grows
returns-in_err-record_event-clause-grows g c = growth_failed c.in_err-record_event.ensures.grows _ c.from_residual.ensures.0

pub returns-clause-grows : goal.returns-clause-grows
returns-clause-grows g c = growth_on c.in_ok-record_event.ensures.grows c.record_points.ensures.grows
