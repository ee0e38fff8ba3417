use Rattle.std.proofs.Common.{map, ◌∙◌}
use Rattle.geo_state.proofs.Shapes.{lo_long}
use Rattle.sweep.proofs.PickedConditions.{mapped_picks}
use Rattle.object_pruning.proofs.Cases.{from_none, from_some}
use Rattle.object_pruning.proofs.Record.{cut_to_mark, drop_recorded, growth_cut, mark_in}
use Rattle.derivation.proofs.Continuing.{growth_added, growth_refused, growth_on, growth_failed}
use Rattle.object_pruning.proofs.places.sought_point.Goals as goal

pub cut_back-requires : goal.cut_back-requires
cut_back-requires g c = λ kept. let list = g.R.Recorder.list in
    mark_in (list c.args.rec.now) (list c.first_point.new.rec) c.mark-mark.result (c.mark-mark.ensures.kept kept)
    ((growth_on (growth_added _ c.in_ok-add.ensures.ok c.add.ensures.refusals) c.in_ok-point.ensures.grows).events kept)

pub returns-in-Some-clause-point : goal.returns-in-Some-clause-point
returns-in-Some-clause-point g c = record { place = c.requires.there; point = (from_some _ _ c.in_ok-point.field-0 c.in-Some.point c.in-Some.is c.in_ok-point.ensures.point).point }

pub returns-in-Some-clause-led : goal.returns-in-Some-clause-led
returns-in-Some-clause-led g c = λ kept. let list = g.R.Recorder.list in
    c.cut_back.ensures.list kept
    ∙ cut_to_mark (list c.args.rec.now) (list c.first_point.new.rec) c.mark-mark.result (c.mark-mark.ensures.kept kept)
    ((growth_on (growth_added _ c.in_ok-add.ensures.ok c.add.ensures.refusals) c.in_ok-point.ensures.grows).events kept)

pub returns-in-None-clause-led : goal.returns-in-None-clause-led
returns-in-None-clause-led g c = λ kept.
    let list = g.R.Recorder.list in
    drop_recorded g.row.K (map g.I.Indexical.cond c.args.list.now) c.args.picks.now c.args.s.now c.args.o.0 c.args.place (list c.args.rec.now) (list c.add.new.self) (list c.first_point.new.rec)
    (mapped_picks g.I.Indexical.cond c.args.list.now c.args.picks.now c.requires.picks) (lo_long g.row.K c.args.s.now c.args.o.0 c.objects-objects.ensures.shape c.requires.object) c.requires.there (c.in_ok-add.ensures.ok kept) (from_none _ _ c.in_ok-point.field-0 c.in-None.is (c.in_ok-point.ensures.covered kept))

pub returns-in_err-add-clause-grows : goal.returns-in_err-add-clause-grows
returns-in_err-add-clause-grows g c = growth_failed (growth_refused c.in_err-add.ensures.err c.add.ensures.refusals c.in_err-add.ensures.refused c.in_err-add.ensures.no_record) _ c.from_residual.ensures.0

pub returns-in_err-point-clause-grows : goal.returns-in_err-point-clause-grows
returns-in_err-point-clause-grows g c = growth_failed (growth_on (growth_added _ c.in_ok-add.ensures.ok c.add.ensures.refusals) c.in_err-point.ensures.grows) _ c.from_residual-in_err-point.ensures.0

pub returns-in-Some-clause-grows : goal.returns-in-Some-clause-grows
returns-in-Some-clause-grows g c = growth_cut (growth_on (growth_added _ c.in_ok-add.ensures.ok c.add.ensures.refusals) c.in_ok-point.ensures.grows) c.mark-mark.ensures.kept c.cut_back.ensures.list c.cut_back.ensures.refusals

pub returns-in-None-clause-grows : goal.returns-in-None-clause-grows
returns-in-None-clause-grows g c = growth_on (growth_added _ c.in_ok-add.ensures.ok c.add.ensures.refusals) c.in_ok-point.ensures.grows
