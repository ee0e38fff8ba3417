use Rattle.std.proofs.Common.{rules, ◌≡◌, ◌<◌, ◌≤ℤ◌, arith, ap, sym, ◌∙◌, subst, set, ℤ, negsuc, ◌+ℤ◌}
use Rattle.std.proofs.lemmas.Int.{ints}
use Rattle.std.specs.Int.{w64}
use mir.Val.{to_z, of_z}
use Rattle.geo_base.specs.Boxes.{coordinate}
use Rattle.geo_conditions.specs.Reach.{State, IsState, Region, reach, high, with_high}
use Rattle.geo_state.specs.Trail.{HasSmallIntervals, IsSmallEnd}
use Rattle.geo_state.proofs.Numbers.{kept64, small_kept}
use Rattle.geo_state.proofs.Shapes.{lo_long, hi_long}
use Rattle.plain_propagate.proofs.Recorded.{led_from}
use Rattle.plain_propagate.proofs.Narrowed.{high_mended}
use Rattle.derivation.proofs.Continuing.{growth_failed}
use Rattle.plain_propagate.proofs.mending.lower.Goals as goal

pub returns-clause-narrower : goal.returns-clause-narrower
returns-clause-narrower g c =
    let S = c.args.t.now.state in
    let o = c.args.o.0 in
    let d = c.args.d in
    let e : c.state-state.result.now ≡ S = c.state-state.ensures.value in
    let shape : IsState g.row.K S = subst (IsState g.row.K) e c.objects-objects.ensures.shape in
    let small : HasSmallIntervals S = c.state-state.ensures.small in
    let at : to_z w64 (of_z w64 c.get-high.result) ≡ high S o d = kept64 c.get-high.result c.get-high.type_inv ∙ c.get-high.ensures ∙ ap (λ (x : Region). coordinate x.hi d) c.region-region.ensures.value ∙ ap (λ (T : State). high T o d) e in
    let v : ℤ = to_z w64 (of_z w64 c.get-high.result) +ℤ negsuc 0 in
    let within : IsSmallEnd v = (omega (arith, ints, at, c.requires.defect.wide, (small o d).0, (small o d).1), omega (arith, ints, at, c.requires.defect.wide, (small o d).0, (small o d).1)) in
    high_mended c.args.cs.now S c.set_high.new.self.state o d (to_z w64 (of_z w64 v)) c.requires.defect
    (lo_long g.row.K S o shape c.requires.defect.object ∙ sym (hi_long g.row.K S o shape c.requires.defect.object))
    (small_kept v within ∙ ap (λ (z : ℤ). z +ℤ negsuc 0) at) c.set_high.ensures.state

pub returns-clause-led : goal.returns-clause-led
returns-clause-led g c = λ kept.
    let S = c.args.t.now.state in
    let o = c.args.o.0 in
    let d = c.args.d in
    let e : c.state-state.result.now ≡ S = c.state-state.ensures.value in
    let small : HasSmallIntervals S = c.state-state.ensures.small in
    let at : to_z w64 (of_z w64 c.get-high.result) ≡ high S o d = kept64 c.get-high.result c.get-high.type_inv ∙ c.get-high.ensures ∙ ap (λ (x : Region). coordinate x.hi d) c.region-region.ensures.value ∙ ap (λ (T : State). high T o d) e in
    let v : ℤ = to_z w64 (of_z w64 c.get-high.result) +ℤ negsuc 0 in
    let within : IsSmallEnd v = (omega (arith, ints, at, c.requires.defect.wide, (small o d).0, (small o d).1), omega (arith, ints, at, c.requires.defect.wide, (small o d).0, (small o d).1)) in
    led_from c.args.cs.now S c.state-state.result.now c.set_high.new.self.state (λ (X : State). set X o (with_high (reach X o) d (high X o d +ℤ negsuc 0))) _ _ e
    (c.set_high.ensures.state ∙ ap (λ (z : ℤ). set S o (with_high (reach S o) d z)) (small_kept v within ∙ ap (λ (z : ℤ). z +ℤ negsuc 0) at)) (c.in_ok-record_lower.ensures.led kept)

pub set_high-requires : goal.set_high-requires
set_high-requires g c =
    let S = c.args.t.now.state in
    let o = c.args.o.0 in
    let d = c.args.d in
    let e : c.state-state.result.now ≡ S = c.state-state.ensures.value in
    let small : HasSmallIntervals S = c.state-state.ensures.small in
    let shape : IsState g.row.K S = subst (IsState g.row.K) e c.objects-objects.ensures.shape in
    let dimension : d < g.row.K = omega (arith, c.requires.defect.dimension, lo_long g.row.K S o shape c.requires.defect.object) in
    let at : to_z w64 (of_z w64 c.get-high.result) ≡ high S o d = kept64 c.get-high.result c.get-high.type_inv ∙ c.get-high.ensures ∙ ap (λ (x : Region). coordinate x.hi d) c.region-region.ensures.value ∙ ap (λ (T : State). high T o d) e in
    let v : ℤ = to_z w64 (of_z w64 c.get-high.result) +ℤ negsuc 0 in
    let within : IsSmallEnd v = (omega (arith, ints, at, c.requires.defect.wide, (small o d).0, (small o d).1), omega (arith, ints, at, c.requires.defect.wide, (small o d).0, (small o d).1)) in
    let within_kept : IsSmallEnd (to_z w64 (of_z w64 v)) = subst IsSmallEnd (sym (small_kept v within)) within in
    let narrower : to_z w64 (of_z w64 v) ≤ℤ high S o d = subst (λ (z : ℤ). z ≤ℤ high S o d) (sym (small_kept v within)) (omega (arith, ints, at)) in
    search rules

pub returns-in_err-record_lower-clause-grows : goal.returns-in_err-record_lower-clause-grows
returns-in_err-record_lower-clause-grows g c = growth_failed c.in_err-record_lower.ensures.grows _ c.from_residual.ensures.0

pub returns-clause-grows : goal.returns-clause-grows
returns-clause-grows g c = c.in_ok-record_lower.ensures.grows
