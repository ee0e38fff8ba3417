use Rattle.std.proofs.Common.{Bool, cond, map, Some, None, ap, sym, refl}
use Rattle.geo_conditions.specs.Regions.{region_of}
use Rattle.geo_conditions.proofs.Few.{dims_are}
use Rattle.derivation.proofs.Continuing.{growth_refused}
use Rattle.sweep.proofs.Between.{HasSwept-refused, HasSwept-empty, HasSwept-failed_on, HasSwept-as}
use Rattle.sweep.proofs.first_point.sweep_region.Goals as goal

pub returns-in-Err : goal.returns-in-Err
returns-in-Err g c =
    HasSwept-refused g.row.K c.args.way.now.lead c.args.way.now.up g.R.Recorder.keeps (map g.I.Indexical.cond c.args.list.now) c.args.picks.now c.args.s.now c.args.o.0 c.args.place (region_of c.args.region.now) (g.R.Recorder.list c.args.rec.now) (g.R.Recorder.list c.add.new.self) (g.R.Recorder.refusals c.args.rec.now) (g.R.Recorder.refusals c.add.new.self) c.args.steps.now _ c.in-Err.e
    c.in-Err.ensures.err (growth_refused c.in-Err.ensures.err c.add.ensures.refusals c.in-Err.ensures.refused c.in-Err.ensures.no_record)

pub returns-in-Ok : goal.returns-in-Ok
returns-in-Ok g c =
    HasSwept-empty g.row.K c.args.way.now.lead c.args.way.now.up g.R.Recorder.keeps (map g.I.Indexical.cond c.args.list.now) c.args.picks.now c.args.s.now c.args.o.0 c.args.place (region_of c.args.region.now) (g.R.Recorder.list c.args.rec.now) (g.R.Recorder.list c.add.new.self) (g.R.Recorder.refusals c.args.rec.now) (g.R.Recorder.refusals c.add.new.self) c.args.steps.now _ None refl
    c.requires.fits c.requires.object (dims_are g.row.K c.args.s.now c.args.o.0 c.objects-objects.ensures.shape c.requires.object) c.dimensions-low.ensures.list c.dimensions-high.ensures.list c.if-is_empty.ensures.ends c.in-Ok.ensures.ok c.add.ensures.refusals

pub returns-in-Err-sweep_turns : goal.returns-in-Err-sweep_turns
returns-in-Err-sweep_turns g c =
    HasSwept-failed_on g.row.K c.args.way.now.lead c.args.way.now.up g.R.Recorder.keeps (map g.I.Indexical.cond c.args.list.now) c.args.picks.now c.args.s.now c.args.o.0 c.args.place (region_of c.args.region.now) (g.R.Recorder.list c.args.rec.now) (g.R.Recorder.list c.sweep_turns.new.rec) (g.R.Recorder.refusals c.args.rec.now) (g.R.Recorder.refusals c.sweep_turns.new.rec) c.args.steps.now c.sweep_turns.new.steps
    _ _ _ _ c.in-Err-sweep_turns.ensures

pub returns-in-Ok-true : goal.returns-in-Ok-true
returns-in-Ok-true g c =
    HasSwept-as g.row.K c.args.way.now.lead c.args.way.now.up g.R.Recorder.keeps (map g.I.Indexical.cond c.args.list.now) c.args.picks.now c.args.s.now c.args.o.0 c.args.place (region_of c.args.region.now) (g.R.Recorder.list c.args.rec.now) (g.R.Recorder.list c.sweep_turns.new.rec) (g.R.Recorder.refusals c.args.rec.now) (g.R.Recorder.refusals c.sweep_turns.new.rec) c.args.steps.now c.sweep_turns.new.steps
    _ _ c.in-Ok-true.field-0 _ (sym (ap (λ (b : Bool). cond b (Some c.sweep_turns.new.c.coordinates) None) c.in-Ok-true.field-0-test)) c.in-Ok-true.ensures

pub returns-in-Ok-false : goal.returns-in-Ok-false
returns-in-Ok-false g c =
    HasSwept-as g.row.K c.args.way.now.lead c.args.way.now.up g.R.Recorder.keeps (map g.I.Indexical.cond c.args.list.now) c.args.picks.now c.args.s.now c.args.o.0 c.args.place (region_of c.args.region.now) (g.R.Recorder.list c.args.rec.now) (g.R.Recorder.list c.sweep_turns.new.rec) (g.R.Recorder.refusals c.args.rec.now) (g.R.Recorder.refusals c.sweep_turns.new.rec) c.args.steps.now c.sweep_turns.new.steps
    _ _ c.in-Ok-false.field-0 _ (sym (ap (λ (b : Bool). cond b (Some c.sweep_turns.new.c.coordinates) None) c.in-Ok-false.field-0-test)) c.in-Ok-false.ensures
