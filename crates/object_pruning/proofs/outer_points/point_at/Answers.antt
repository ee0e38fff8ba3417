use Rattle.std.proofs.Common.{◌≡◌, true, false, map, sym, ◌∙◌}
use Rattle.geo_conditions.specs.Reach.{reach, has}
use Rattle.geo_conditions.specs.Supported.{IsFirstPoint}
use Rattle.geo_state.proofs.Shapes.{lo_long}
use Rattle.sweep.specs.Picks.{picked}
use Rattle.sweep.proofs.PickedConditions.{mapped_picks}
use Rattle.object_pruning.proofs.Cases.{from_none, from_some}
use Rattle.object_pruning.proofs.Ends.{first_outermost}
use Rattle.object_pruning.proofs.Record.{lists_absent, lists_none, lists_some}
use Rattle.derivation.proofs.Continuing.{growth_none, growth_added, growth_refused, growth_on, growth_failed}
use Rattle.object_pruning.proofs.outer_points.point_at.Goals as goal

pub returns-then-not-has_shape-clause-listed : goal.returns-then-not-has_shape-clause-listed
returns-then-not-has_shape-clause-listed g c = λ kept v h.
    let S = c.args.s.now in
    let o = c.args.o.0 in
    let way = c.args.way.now in
    let f : has S o c.args.place ≡ false = sym c.has_shape.ensures ∙ c.if-not-has_shape.true in
    lists_absent (map g.I.Indexical.cond c.args.list.now) S o way.lead way.up v c.args.place (g.R.Recorder.list c.args.rec.now) c.requires.place f

pub returns-in-Some-clause-point : goal.returns-in-Some-clause-point
returns-in-Some-clause-point g c =
    let cs = picked (map g.I.Indexical.cond c.args.list.now) c.args.picks.now in
    let S = c.args.s.now in
    let o = c.args.o.0 in
    let way = c.args.way.now in
    let p = c.in-Some.point.coordinates in
    let t : has S o c.args.place ≡ true = sym c.has_shape.ensures ∙ c.if-not-has_shape.false in
    let f : IsFirstPoint g.row.K way.lead way.up cs S o c.args.place (reach S o).region p = from_some _ _ c.in_ok-point.field-0 c.in-Some.point c.in-Some.is c.in_ok-point.ensures.point in (
      record { place = t; point = f.point },
      λ q y. first_outermost g.row.K way.lead way.up cs S o c.args.place (reach S o).region p q way.lead_in f y.point,
    )

pub returns-in-Some-clause-listed : goal.returns-in-Some-clause-listed
returns-in-Some-clause-listed g c = λ kept v h.
    let S = c.args.s.now in
    let o = c.args.o.0 in
    let way = c.args.way.now in
    let list = g.R.Recorder.list in
    let t : has S o c.args.place ≡ true = sym c.has_shape.ensures ∙ c.if-not-has_shape.false in
    lists_some g.row.K (map g.I.Indexical.cond c.args.list.now) c.args.picks.now S o way.lead way.up v c.args.place c.in-Some.point.coordinates (list c.args.rec.now) (list c.add.new.self) (list c.first_point.new.rec)
    (mapped_picks g.I.Indexical.cond c.args.list.now c.args.picks.now c.requires.picks) (lo_long g.row.K c.args.s.now c.args.o.0 c.objects-objects.ensures.shape c.requires.object) c.requires.fits c.requires.object c.requires.place t h (c.in_ok-add.ensures.ok kept) (from_some _ _ c.in_ok-point.field-0 c.in-Some.point c.in-Some.is (c.in_ok-point.ensures.covered kept))

pub returns-in-None-clause-listed : goal.returns-in-None-clause-listed
returns-in-None-clause-listed g c = λ kept v h.
    let S = c.args.s.now in
    let o = c.args.o.0 in
    let way = c.args.way.now in
    let list = g.R.Recorder.list in
    let t : has S o c.args.place ≡ true = sym c.has_shape.ensures ∙ c.if-not-has_shape.false in
    lists_none g.row.K (map g.I.Indexical.cond c.args.list.now) c.args.picks.now S o way.lead way.up v c.args.place (list c.args.rec.now) (list c.add.new.self) (list c.first_point.new.rec)
    (mapped_picks g.I.Indexical.cond c.args.list.now c.args.picks.now c.requires.picks) (lo_long g.row.K c.args.s.now c.args.o.0 c.objects-objects.ensures.shape c.requires.object) c.requires.fits c.requires.object c.requires.place t (c.in_ok-add.ensures.ok kept) (from_none _ _ c.in_ok-point.field-0 c.in-None.is (c.in_ok-point.ensures.covered kept))

pub returns-then-not-has_shape-clause-grows : goal.returns-then-not-has_shape-clause-grows
returns-then-not-has_shape-clause-grows g c = growth_none _ _ _

pub returns-in_err-add-clause-grows : goal.returns-in_err-add-clause-grows
returns-in_err-add-clause-grows g c = growth_failed (growth_refused c.in_err-add.ensures.err c.add.ensures.refusals c.in_err-add.ensures.refused c.in_err-add.ensures.no_record) _ c.from_residual.ensures.0

pub returns-in_err-point-clause-grows : goal.returns-in_err-point-clause-grows
returns-in_err-point-clause-grows g c = growth_failed (growth_on (growth_added _ c.in_ok-add.ensures.ok c.add.ensures.refusals) c.in_err-point.ensures.grows) _ c.from_residual-in_err-point.ensures.0

pub returns-in-Some-clause-grows : goal.returns-in-Some-clause-grows
returns-in-Some-clause-grows g c = growth_on (growth_added _ c.in_ok-add.ensures.ok c.add.ensures.refusals) c.in_ok-point.ensures.grows

pub returns-in-None-clause-grows : goal.returns-in-None-clause-grows
returns-in-None-clause-grows g c = growth_on (growth_added _ c.in_ok-add.ensures.ok c.add.ensures.refusals) c.in_ok-point.ensures.grows
