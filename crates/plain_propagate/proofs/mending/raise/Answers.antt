use Rattle.std.proofs.Common.{rules, ◌≡◌, ◌<◌, ◌≤ℤ◌, arith, ap, sym, ◌∙◌, subst, set, ℤ, pos, ◌+ℤ◌}
use Rattle.std.proofs.lemmas.Int.{ints}
use Rattle.std.specs.Int.{w64}
use mir.Val.{to_z, of_z}
use Rattle.geo_base.specs.Boxes.{coordinate}
use Rattle.geo_conditions.specs.Reach.{State, IsState, Region, reach, low, with_low}
use Rattle.geo_state.specs.Trail.{HasSmallIntervals, IsSmallEnd}
use Rattle.geo_state.proofs.Numbers.{kept64, small_kept}
use Rattle.geo_state.proofs.Shapes.{lo_long, hi_long}
use Rattle.plain_propagate.proofs.Recorded.{led_from}
use Rattle.plain_propagate.proofs.Narrowed.{low_mended}
use Rattle.derivation.proofs.Continuing.{growth_failed}
use Rattle.plain_propagate.proofs.mending.raise.Goals as goal

pub returns-clause-narrower : goal.returns-clause-narrower
returns-clause-narrower g c =
    let S = c.args.t.now.state in
    let o = c.args.o.0 in
    let d = c.args.d in
    let e : c.state-state.result.now ≡ S = c.state-state.ensures.value in
    let shape : IsState g.row.K S = subst (IsState g.row.K) e c.objects-objects.ensures.shape in
    let small : HasSmallIntervals S = c.state-state.ensures.small in
    let at : to_z w64 (of_z w64 c.get-low.result) ≡ low S o d = kept64 c.get-low.result c.get-low.type_inv ∙ c.get-low.ensures ∙ ap (λ (x : Region). coordinate x.lo d) c.region-region.ensures.value ∙ ap (λ (T : State). low T o d) e in
    let v : ℤ = to_z w64 (of_z w64 c.get-low.result) +ℤ pos 1 in
    let within : IsSmallEnd v = (omega (arith, ints, at, c.requires.defect.wide, (small o d).0, (small o d).1), omega (arith, ints, at, c.requires.defect.wide, (small o d).0, (small o d).1)) in
    low_mended c.args.cs.now S c.set_low.new.self.state o d (to_z w64 (of_z w64 v)) c.requires.defect
    (lo_long g.row.K S o shape c.requires.defect.object ∙ sym (hi_long g.row.K S o shape c.requires.defect.object))
    (small_kept v within ∙ ap (λ (z : ℤ). z +ℤ pos 1) at) c.set_low.ensures.state

pub returns-clause-led : goal.returns-clause-led
returns-clause-led g c = λ kept.
    let S = c.args.t.now.state in
    let o = c.args.o.0 in
    let d = c.args.d in
    let e : c.state-state.result.now ≡ S = c.state-state.ensures.value in
    let small : HasSmallIntervals S = c.state-state.ensures.small in
    let at : to_z w64 (of_z w64 c.get-low.result) ≡ low S o d = kept64 c.get-low.result c.get-low.type_inv ∙ c.get-low.ensures ∙ ap (λ (x : Region). coordinate x.lo d) c.region-region.ensures.value ∙ ap (λ (T : State). low T o d) e in
    let v : ℤ = to_z w64 (of_z w64 c.get-low.result) +ℤ pos 1 in
    let within : IsSmallEnd v = (omega (arith, ints, at, c.requires.defect.wide, (small o d).0, (small o d).1), omega (arith, ints, at, c.requires.defect.wide, (small o d).0, (small o d).1)) in
    led_from c.args.cs.now S c.state-state.result.now c.set_low.new.self.state (λ (X : State). set X o (with_low (reach X o) d (low X o d +ℤ pos 1))) _ _ e
    (c.set_low.ensures.state ∙ ap (λ (z : ℤ). set S o (with_low (reach S o) d z)) (small_kept v within ∙ ap (λ (z : ℤ). z +ℤ pos 1) at)) (c.in_ok-record_raise.ensures.led kept)

pub set_low-requires : goal.set_low-requires
set_low-requires g c =
    let S = c.args.t.now.state in
    let o = c.args.o.0 in
    let d = c.args.d in
    let e : c.state-state.result.now ≡ S = c.state-state.ensures.value in
    let small : HasSmallIntervals S = c.state-state.ensures.small in
    let shape : IsState g.row.K S = subst (IsState g.row.K) e c.objects-objects.ensures.shape in
    let dimension : d < g.row.K = omega (arith, c.requires.defect.dimension, lo_long g.row.K S o shape c.requires.defect.object) in
    let at : to_z w64 (of_z w64 c.get-low.result) ≡ low S o d = kept64 c.get-low.result c.get-low.type_inv ∙ c.get-low.ensures ∙ ap (λ (x : Region). coordinate x.lo d) c.region-region.ensures.value ∙ ap (λ (T : State). low T o d) e in
    let v : ℤ = to_z w64 (of_z w64 c.get-low.result) +ℤ pos 1 in
    let within : IsSmallEnd v = (omega (arith, ints, at, c.requires.defect.wide, (small o d).0, (small o d).1), omega (arith, ints, at, c.requires.defect.wide, (small o d).0, (small o d).1)) in
    let within_kept : IsSmallEnd (to_z w64 (of_z w64 v)) = subst IsSmallEnd (sym (small_kept v within)) within in
    let narrower : low S o d ≤ℤ to_z w64 (of_z w64 v) = subst (λ (z : ℤ). low S o d ≤ℤ z) (sym (small_kept v within)) (omega (arith, ints, at)) in
    search rules

pub returns-in_err-record_raise-clause-grows : goal.returns-in_err-record_raise-clause-grows
returns-in_err-record_raise-clause-grows g c = growth_failed c.in_err-record_raise.ensures.grows _ c.from_residual.ensures.0

pub returns-clause-grows : goal.returns-clause-grows
returns-clause-grows g c = c.in_ok-record_raise.ensures.grows
