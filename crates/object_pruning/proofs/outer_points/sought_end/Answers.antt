use Rattle.std.proofs.Common.{◌≡◌, ◌≢◌, ◌<◌, true, ℤ, map, set, sym, ap, ◌∙◌, arith}
use Rattle.std.specs.Int.{w64}
use mir.Val.{to_z, of_z}
use Rattle.geo_base.specs.Boxes.{coordinate}
use Rattle.geo_conditions.specs.Reach.{dims}
use Rattle.geo_state.proofs.Numbers.{kept64}
use Rattle.geo_state.proofs.Shapes.{lo_long}
use Rattle.derivation.specs.Chains.{bound_event}
use Rattle.derivation.specs.declared.event.Event.{Event}
use Rattle.derivation.specs.declared.event.Event.TheVariants.{EndCovers}
use Rattle.derivation.proofs.Continuing.{growth_done, growth_added, growth_refused, growth_on, growth_failed}
use Rattle.sweep.specs.Picks.{picked}
use Rattle.object_pruning.specs.Ends.{end}
use Rattle.derivation.specs.Chains.{IsLed}
use Rattle.object_pruning.specs.Record.{end_side, with_end}
use Rattle.object_pruning.proofs.Ends.{outermost_in}
use Rattle.object_pruning.proofs.Record.{growth_cut, mark_in, mark_before, cut_to_mark, end_recorded}
use Rattle.object_pruning.proofs.outer_points.sought_end.Goals as goal
use Rattle.object_pruning.proofs.outer_points.sought_end.Goals.{After-set}

pub cut_back-requires : goal.cut_back-requires
cut_back-requires g c = λ kept. let list = g.R.Recorder.list in
    mark_in (list c.args.rec.now) (list c.outermost.new.rec) c.mark-mark.result (c.mark-mark.ensures.kept kept)
    ((growth_on (growth_added _ c.in_ok-add.ensures.ok c.add.ensures.refusals) c.in_ok-q.ensures.grows).events kept)

pub returns-then-v-there-clause-stands : goal.returns-then-v-there-clause-stands
returns-then-v-there-clause-stands g c = λ kept e. let list = g.R.Recorder.list in
    c.cut_back.ensures.list kept
    ∙ cut_to_mark (list c.args.rec.now) (list c.outermost.new.rec) c.mark-mark.result (c.mark-mark.ensures.kept kept)
    ((growth_on (growth_added _ c.in_ok-add.ensures.ok c.add.ensures.refusals) c.in_ok-q.ensures.grows).events kept)

pub returns-then-v-there-clause-led : goal.returns-then-v-there-clause-led
returns-then-v-there-clause-led g c = λ kept ne.
    let same : c.get-v.result ≡ c.end_of-there.result = sym (kept64 c.get-v.result c.get-v.type_inv) ∙ ap (to_z w64) c.if-v-there.true ∙ kept64 c.end_of-there.result c.end_of-there.type_inv in
    absurd (ne (sym c.get-v.ensures ∙ same ∙ c.end_of-there.ensures))

pub set-requires : goal.set-requires
set-requires g c = λ kept. let list = g.R.Recorder.list in
    mark_before (list c.args.rec.now) (list c.outermost.new.rec) (list c.add-2.new.self) c.mark-mark.result EndCovers (c.mark-mark.ensures.kept kept)
    ((growth_on (growth_added _ c.in_ok-add.ensures.ok c.add.ensures.refusals) c.in_ok-q.ensures.grows).events kept)
    (c.in_ok-add-2.ensures.ok kept)

pub returns-clause-stands : goal.returns-clause-stands
returns-clause-stands g c = λ kept e. absurd (c.if-v-there.false (ap (of_z w64) (c.get-v.ensures ∙ e ∙ sym c.end_of-there.ensures)))

-- the end moved, and its event and covers are there
led : (g : _) (c : After-set g) → g.R.Recorder.keeps ≡ true → coordinate c.in_ok-q.q.point.coordinates c.args.d ≢ end c.args.up c.args.s.now c.args.o.0 c.args.d
    → IsLed (map g.I.Indexical.cond c.args.list.now) c.args.s.now (with_end c.args.s.now c.args.o.0 c.args.d c.args.up (coordinate c.in_ok-q.q.point.coordinates c.args.d)) (g.R.Recorder.list c.args.rec.now) (g.R.Recorder.list c.set.new.self)
led g c kept ne =
    let list = g.R.Recorder.list in
    let all = map g.I.Indexical.cond c.args.list.now in
    let S = c.args.s.now in
    let o = c.args.o.0 in
    let d = c.args.d in
    let up = c.args.up in
    let v = coordinate c.in_ok-q.q.point.coordinates d in
    let at : to_z w64 (of_z w64 c.get-v.result) ≡ v = kept64 c.get-v.result c.get-v.type_inv ∙ c.get-v.ensures in
    let within = outermost_in (picked all c.args.picks.now) S o d up v c.in_ok-q.ensures.point.1 in
    let k : d < dims S o = omega (arith, c.requires.dimension, lo_long g.row.K S o c.objects-objects.ensures.shape c.requires.object) in
    end_recorded all S o d up v (list c.args.rec.now) (list c.add.new.self) (list c.outermost.new.rec) (list c.add-2.new.self) (list c.set.new.self) c.end_event.result c.mark-mark.result c.requires.object k c.requires.small within.0 within.1
    (c.mark-mark.ensures.kept kept) (c.in_ok-add.ensures.ok kept) (c.in_ok-q.ensures.listed kept ne) (c.in_ok-add-2.ensures.ok kept)
    (c.set.ensures.list kept ∙ ap (λ (e : Event). set (list c.add-2.new.self) c.mark-mark.result e) (c.end_event-2.ensures ∙ ap (λ (z : ℤ). bound_event o (end_side up d z)) at))

pub returns-clause-led : goal.returns-clause-led
returns-clause-led g c = λ kept ne. led g c kept ne

pub returns-in_err-add-clause-grows : goal.returns-in_err-add-clause-grows
returns-in_err-add-clause-grows g c = growth_failed (growth_refused c.in_err-add.ensures.err c.add.ensures.refusals c.in_err-add.ensures.refused c.in_err-add.ensures.no_record) _ c.from_residual.ensures.0

pub returns-in_err-q-clause-grows : goal.returns-in_err-q-clause-grows
returns-in_err-q-clause-grows g c = growth_failed (growth_on (growth_added _ c.in_ok-add.ensures.ok c.add.ensures.refusals) c.in_err-q.ensures.grows) _ c.from_residual-in_err-q.ensures.0

pub returns-then-v-there-clause-grows : goal.returns-then-v-there-clause-grows
returns-then-v-there-clause-grows g c = growth_cut (growth_on (growth_added _ c.in_ok-add.ensures.ok c.add.ensures.refusals) c.in_ok-q.ensures.grows) c.mark-mark.ensures.kept c.cut_back.ensures.list c.cut_back.ensures.refusals

pub returns-in_err-add-2-clause-grows : goal.returns-in_err-add-2-clause-grows
returns-in_err-add-2-clause-grows g c = growth_failed (growth_on (growth_on (growth_added _ c.in_ok-add.ensures.ok c.add.ensures.refusals) c.in_ok-q.ensures.grows) (growth_refused c.in_err-add-2.ensures.err c.add-2.ensures.refusals c.in_err-add-2.ensures.refused c.in_err-add-2.ensures.no_record)) _ c.from_residual-in_err-add-2.ensures.0

pub returns-clause-grows : goal.returns-clause-grows
returns-clause-grows g c =
    growth_done (λ kept. let w = led g c kept (λ e. c.if-v-there.false (ap (of_z w64) (c.get-v.ensures ∙ e ∙ sym c.end_of-there.ensures))) in (w.0, w.1))
    (omega (arith, c.add.ensures.refusals, c.in_ok-q.ensures.grows.refusals, c.add-2.ensures.refusals, c.set.ensures.refusals))
