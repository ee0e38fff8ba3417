use Rattle.std.proofs.Common.{sym, ◌∙◌}
use Rattle.std.proofs.lemmas.Result.{on_ok_weaker}
use Rattle.geo_conditions.specs.Regions.{region_of}
use Rattle.derivation.proofs.Listings.{recorded_skip, recorded_more}
use Rattle.derivation.proofs.Continuing.{growth_none, growth_on, growth_failed}
use Rattle.plain_propagate.proofs.recording.record_place.Goals as goal

pub returns-then-not-has_shape-clause-cover : goal.returns-then-not-has_shape-clause-cover
returns-then-not-has_shape-clause-cover g c = λ kept base r.
    recorded_skip c.args.cs.now c.args.s.now c.args.o.0 (region_of c.args.b.now) c.args.place base (g.R.Recorder.list c.args.rec.now) c.requires.place (sym c.has_shape.ensures ∙ c.if-not-has_shape.true) r

pub returns-clause-cover : goal.returns-clause-cover
returns-clause-cover g c = on_ok_weaker c.record_points.result (λ ok kept base r.
    let t = ok kept in
    recorded_more c.args.cs.now c.args.s.now c.args.o.0 (region_of c.args.b.now) c.args.place t.tree base (g.R.Recorder.list c.args.rec.now) (g.R.Recorder.list c.record_event.new.rec) (g.R.Recorder.list c.record_points.new.rec)
    c.requires.place (sym c.has_shape.ensures ∙ c.if-not-has_shape.false) (c.in_ok-record_event.ensures.added kept) t.events t.covered t.numbers r) c.record_points.ensures.cover

pub returns-then-not-has_shape-clause-grows : goal.returns-then-not-has_shape-clause-grows
returns-then-not-has_shape-clause-grows g c = growth_none _ _ _

pub returns-in_err-record_event-clause-grows : goal.returns-in_err-record_event-clause-grows
returns-in_err-record_event-clause-grows g c = growth_failed c.in_err-record_event.ensures.grows _ c.from_residual.ensures.0

pub returns-clause-grows : goal.returns-clause-grows
returns-clause-grows g c = growth_on c.in_ok-record_event.ensures.grows c.record_points.ensures.grows
