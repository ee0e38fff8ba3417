use Rattle.std.proofs.Common.{◌≡◌, ◌<◌, length, ap, sym, ◌∙◌, set, ℕ, subst}
use Rattle.geo_conditions.specs.Reach.{State, reach, nowhere, with_interval}
use Rattle.geo_base.specs.Boxes.{coordinate}
use Rattle.geo_state.specs.Undo.{Entry}
use Rattle.geo_state.proofs.Numbers.{kept64}
use Rattle.geo_state.proofs.Regions.{half, half_more}
use Rattle.geo_state.proofs.entries.Saved.put_back.Goals as goal

pub loop-d-init : goal.loop-d-init
loop-d-init g c =
    let S = c.args.state.now in
    c.set_places.ensures ∙ ap (λ (e : Entry). set S e.object (half 0 e.reach (reach S e.object))) c.self.view_is

pub loop-d-preserved : goal.loop-d-preserved
loop-d-preserved g c =
    let S = c.args.state.now in let e = c.args.self.now in let q = reach S e.object in let d = c.loop-d.d in
    let lo = c.get.result in let hi = c.get-in-loop-d.result in
    let dims = c.objects-objects.ensures.shape.dims e.object nowhere c.requires.object in
    let long_lo = ap (λ (x : Entry). length x.reach.region.lo) c.self.view_is in
    let long_hi = ap (λ (x : Entry). length x.reach.region.hi) c.self.view_is in
    let kl : length e.reach.region.lo ≡ g.row.K = sym long_lo ∙ c.self.invariant.1 in
    let kh : length e.reach.region.hi ≡ g.row.K = sym long_hi ∙ c.self.invariant.2 in
    c.set_interval.ensures
    ∙ (λ i. set c.loop-d.state c.self.inside.object (with_interval (reach c.loop-d.state c.self.inside.object) d (kept64 c.get.result c.get.type_inv i) (kept64 c.get-in-loop-d.result c.get-in-loop-d.type_inv i)))
    ∙ ap (λ (k : ℕ). set c.loop-d.state k (with_interval (reach c.loop-d.state k) d lo hi)) (ap (λ (x : Entry). x.object) c.self.view_is)
    ∙ ap (λ (T : State). set T e.object (with_interval (reach T e.object) d lo hi)) c.loop-d.invariant
    ∙ half_more S e.object d e.reach q lo hi c.requires.object
    (subst (λ (n : ℕ). d < n) (sym kl) c.loop-d-test.true) (subst (λ (n : ℕ). d < n) (sym kh) c.loop-d-test.true)
    (dims.0 ∙ sym kl) (dims.1 ∙ sym kh)
    (c.get.ensures ∙ ap (λ (x : Entry). coordinate x.reach.region.lo d) c.self.view_is)
    (c.get-in-loop-d.ensures ∙ ap (λ (x : Entry). coordinate x.reach.region.hi d) c.self.view_is)
