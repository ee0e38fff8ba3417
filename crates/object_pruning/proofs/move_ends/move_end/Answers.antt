use Rattle.std.proofs.Common.{◌≡◌, ◌≢◌, ◌≤ℤ◌, ℤ, true, map, refl, sym, ap, ◌∙◌, subst, rules}
use Rattle.std.specs.Int.{w64}
use mir.Val.{to_z, of_z}
use Rattle.geo_base.specs.Boxes.{coordinate}
use Rattle.geo_conditions.specs.Reach.{State, IsState, reach, low, high}
use Rattle.geo_state.specs.Trail.{IsSmallEnd}
use Rattle.geo_state.proofs.Numbers.{kept64}
use Rattle.derivation.specs.Chains.{moved}
use Rattle.sweep.specs.Picks.{picked}
use Rattle.object_pruning.specs.Ends.{IsOutermostPoint, IsTightEnd, MovesEnd, end}
use Rattle.object_pruning.specs.Kept.{AllSupport}
use Rattle.derivation.specs.Chains.{IsLed}
use Rattle.object_pruning.specs.Record.{end_side, with_end}
use Rattle.object_pruning.proofs.Ends.{can_move_on, moves_none, moves_not, moves_set, sought_small, sought_within}
use Rattle.derivation.proofs.Chains.{led_same}
use Rattle.object_pruning.proofs.Supports.{supports_found, supports_set}
use Rattle.derivation.proofs.Continuing.{growth_none, growth_failed}
use Rattle.object_pruning.proofs.move_ends.move_end.Goals as goal
use Rattle.object_pruning.proofs.move_ends.move_end.Goals.{Then-v-end_of, After-set_end}

pub returns-then-knows_end-clause-moves : goal.returns-then-knows_end-clause-moves
returns-then-knows_end-clause-moves g c =
    let cs = picked (map g.I.Indexical.cond c.args.list.now) c.args.picks.now in
    let S = c.args.t.now.state in
    let o = c.args.o.0 in
    let e : c.state-state.result.now ≡ S = c.state-state.ensures.value in
    moves_none cs S o c.args.d c.args.up (subst (λ (T : State). IsTightEnd cs T o c.args.d c.args.up) e (c.knows_end.ensures.tight c.if-knows_end.true))

-- the point that was sought has the end as its coordinate
tight : (g : _) (c : Then-v-end_of g) → coordinate c.in_ok-q.q.point.coordinates c.args.d ≡ end c.args.up c.state-state.result.now c.args.o.0 c.args.d
tight g c =
    let same : c.get-v.result ≡ c.end_of.result = sym (kept64 c.get-v.result c.get-v.type_inv) ∙ ap (to_z w64) c.if-v-end_of.true ∙ kept64 c.end_of.result c.end_of.type_inv in
    sym c.get-v.ensures ∙ same ∙ c.end_of.ensures

pub returns-then-v-end_of-clause-moves : goal.returns-then-v-end_of-clause-moves
returns-then-v-end_of-clause-moves g c =
    let cs = picked (map g.I.Indexical.cond c.args.list.now) c.args.picks.now in
    let S = c.args.t.now.state in
    let o = c.args.o.0 in
    let d = c.args.d in
    let up = c.args.up in
    let q = c.in_ok-q.q in
    let e : c.state-state.result.now ≡ S = c.state-state.ensures.value in
    let out : IsOutermostPoint cs S o d up q = subst (λ (T : State). IsOutermostPoint cs T o d up q) e c.in_ok-q.ensures.point in
    moves_not cs S o d up (coordinate q.point.coordinates d) out.1 (tight g c ∙ ap (λ (T : State). end up T o d) e)

pub returns-then-v-end_of-clause-led : goal.returns-then-v-end_of-clause-led
returns-then-v-end_of-clause-led g c = λ kept.
    let list = g.R.Recorder.list in
    let S = c.args.t.now.state in
    led_same (map g.I.Indexical.cond c.args.list.now) S S (list c.args.rec.now) (list c.sought_end.new.rec) refl (c.in_ok-q.ensures.stands kept (tight g c))

pub returns-then-v-end_of-clause-kept : goal.returns-then-v-end_of-clause-kept
returns-then-v-end_of-clause-kept g c =
    let cs = picked (map g.I.Indexical.cond c.args.list.now) c.args.picks.now in
    supports_found cs c.state-state.result.now c.args.t.now.state c.args.o.0 c.knows_end.new.kept c.keep_found.new.kept c.end_slot.result c.lasting_point-lasting.result
    c.state-state.ensures.value c.lasting_point-lasting.ensures c.knows_end.ensures.kept c.keep_found.ensures

pub set_end-requires : goal.set_end-requires
set_end-requires g c =
    let cs = picked (map g.I.Indexical.cond c.args.list.now) c.args.picks.now in
    let S = c.args.t.now.state in
    let o = c.args.o.0 in
    let d = c.args.d in
    let q = c.in_ok-q.q in
    let v = to_z w64 (of_z w64 c.get-v.result) in
    let at : v ≡ coordinate q.point.coordinates d = kept64 c.get-v.result c.get-v.type_inv ∙ c.get-v.ensures in
    let small : IsSmallEnd v = sought_small cs c.state-state.result.now S o d c.args.up q v c.state-state.ensures.value c.state-state.ensures.small c.in_ok-q.ensures.point at in
    let within : (low S o d ≤ℤ v) × (v ≤ℤ high S o d) = sought_within cs c.state-state.result.now S o d c.args.up q v c.state-state.ensures.value c.in_ok-q.ensures.point at in
    search rules

-- the end was not there
loose : (g : _) (c : After-set_end g) → coordinate c.in_ok-q.q.point.coordinates c.args.d ≢ end c.args.up c.state-state.result.now c.args.o.0 c.args.d
loose g c x = c.if-v-end_of.false (ap (of_z w64) (c.get-v.ensures ∙ x ∙ sym c.end_of.ensures))

-- the end is there now
moved_there : (g : _) (c : After-set_end g) → c.set_end.new.t.state ≡ with_end c.args.t.now.state c.args.o.0 c.args.d c.args.up (coordinate c.in_ok-q.q.point.coordinates c.args.d)
moved_there g c =
    let at : to_z w64 (of_z w64 c.get-v.result) ≡ coordinate c.in_ok-q.q.point.coordinates c.args.d = kept64 c.get-v.result c.get-v.type_inv ∙ c.get-v.ensures in
    c.set_end.ensures.state ∙ ap (λ (z : ℤ). with_end c.args.t.now.state c.args.o.0 c.args.d c.args.up z) at

-- it alone moved
moved_end : (g : _) (c : After-set_end g) → MovesEnd (picked (map g.I.Indexical.cond c.args.list.now) c.args.picks.now) c.args.o.0 c.args.d c.args.up c.args.t.now.state true c.set_end.new.t.state
moved_end g c =
    let cs = picked (map g.I.Indexical.cond c.args.list.now) c.args.picks.now in
    let S = c.args.t.now.state in
    let o = c.args.o.0 in
    let d = c.args.d in
    let up = c.args.up in
    let q = c.in_ok-q.q in
    let v = coordinate q.point.coordinates d in
    let e : c.state-state.result.now ≡ S = c.state-state.ensures.value in
    let shape : IsState g.row.K S = subst (IsState g.row.K) e c.objects-objects.ensures.shape in
    let out : IsOutermostPoint cs S o d up q = subst (λ (T : State). IsOutermostPoint cs T o d up q) e c.in_ok-q.ensures.point in
    moves_set g.row.K cs S c.set_end.new.t.state o d up v shape c.requires.can.object c.requires.dimension out.1 (λ x. loose g c (x ∙ sym (ap (λ (T : State). end up T o d) e))) (moved_there g c)

pub returns-clause-moves : goal.returns-clause-moves
returns-clause-moves g c = moved_end g c

pub returns-clause-can : goal.returns-clause-can
returns-clause-can g c = can_move_on (map g.I.Indexical.cond c.args.list.now) (picked (map g.I.Indexical.cond c.args.list.now) c.args.picks.now) c.args.o.0 c.args.d c.args.up c.args.t.now.state c.set_end.new.t.state true (moved_end g c) c.requires.can

pub returns-clause-led : goal.returns-clause-led
returns-clause-led g c = λ kept.
    let all = map g.I.Indexical.cond c.args.list.now in
    let S = c.args.t.now.state in
    let o = c.args.o.0 in
    let d = c.args.d in
    let up = c.args.up in
    let v = coordinate c.in_ok-q.q.point.coordinates d in
    let old = g.R.Recorder.list c.args.rec.now in
    let new = g.R.Recorder.list c.sought_end.new.rec in
    let at_S : IsLed all S (with_end S o d up v) old new = subst (λ (X : State). IsLed all X (with_end X o d up v) old new) c.state-state.ensures.value (c.in_ok-q.ensures.led kept (loose g c)) in
    subst (λ (X : State). IsLed all S X old new) (sym (moved_there g c)) at_S

pub returns-clause-kept : goal.returns-clause-kept
returns-clause-kept g c =
    let cs = picked (map g.I.Indexical.cond c.args.list.now) c.args.picks.now in
    let S = c.args.t.now.state in
    let o = c.args.o.0 in
    let v = coordinate c.in_ok-q.q.point.coordinates c.args.d in
    let kept : AllSupport cs S o c.keep_found.new.kept =
    supports_found cs c.state-state.result.now S o c.knows_end.new.kept c.keep_found.new.kept c.end_slot.result c.lasting_point-lasting.result c.state-state.ensures.value c.lasting_point-lasting.ensures c.knows_end.ensures.kept c.keep_found.ensures in
    supports_set cs S c.set_end.new.t.state o (moved (end_side c.args.up c.args.d v) (reach S o)) c.keep_found.new.kept c.requires.can.object (moved_there g c) kept

pub returns-then-knows_end-clause-grows : goal.returns-then-knows_end-clause-grows
returns-then-knows_end-clause-grows g c = growth_none _ _ _

pub returns-in_err-q-clause-grows : goal.returns-in_err-q-clause-grows
returns-in_err-q-clause-grows g c = growth_failed (c.in_err-q.ensures.grows) _ c.from_residual.ensures.0

pub returns-then-v-end_of-clause-grows : goal.returns-then-v-end_of-clause-grows
returns-then-v-end_of-clause-grows g c = c.in_ok-q.ensures.grows

pub returns-clause-grows : goal.returns-clause-grows
returns-clause-grows g c = c.in_ok-q.ensures.grows
