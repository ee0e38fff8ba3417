use Rattle.std.proofs.Common.{◌≡◌, set, arith, ap, ◌∙◌, subst, ℤ}
use Rattle.std.proofs.lemmas.Int.{ints}
use Rattle.geo_base.specs.Boxes.{coordinate}
use Rattle.geo_conditions.specs.Reach.{State, IsState, Region, reach, low, high, with_high}
use Rattle.geo_state.proofs.Numbers.{kept64}
use Rattle.geo_state.proofs.Shapes.{hi_long, places_long}
use Rattle.trail_search.proofs.Moves.{bound_none, bound_down, same_down, none_down}
use Rattle.trail_search.proofs.narrow.lower_to.Goals as goal

pub returns-then-v-low-clause-narrows : goal.returns-then-v-low-clause-narrows
returns-then-v-low-clause-narrows g c =
    let S = c.args.t.now.state in
    let o = c.args.o.0 in
    let d = c.args.d in
    let e : c.state-state.result.now ≡ S = c.state-state.ensures.value in
    let shape : IsState g.row.K S = subst (IsState g.row.K) e c.objects-objects.ensures.shape in
    let la = kept64 c.get-low.result c.get-low.type_inv ∙ c.get-low.ensures ∙ ap (λ (x : Region). coordinate x.lo d) c.region-region.ensures.value ∙ ap (λ (T : State). low T o d) e in
    let ha = kept64 c.get-high.result c.get-high.type_inv ∙ c.get-high.ensures ∙ ap (λ (x : Region). coordinate x.hi d) c.region-region.ensures.value ∙ ap (λ (T : State). high T o d) e in
    let v = kept64 c.args.v c.ranges.v.sfits in
    bound_none S c.shed.new.t.state o _ (places_long g.row.K S o shape c.requires.object) c.requires.object c.shed.ensures.sheds
    (none_down S o d c.args.v c.requires.object (omega (arith, ints, c.if-v-low.true, la, ha, v)))

pub returns-then-v-high-clause-narrows : goal.returns-then-v-high-clause-narrows
returns-then-v-high-clause-narrows g c =
    let S = c.args.t.now.state in
    let o = c.args.o.0 in
    let d = c.args.d in
    let e : c.state-state.result.now ≡ S = c.state-state.ensures.value in
    let shape : IsState g.row.K S = subst (IsState g.row.K) e c.objects-objects.ensures.shape in
    let la = kept64 c.get-low.result c.get-low.type_inv ∙ c.get-low.ensures ∙ ap (λ (x : Region). coordinate x.lo d) c.region-region.ensures.value ∙ ap (λ (T : State). low T o d) e in
    let ha = kept64 c.get-high.result c.get-high.type_inv ∙ c.get-high.ensures ∙ ap (λ (x : Region). coordinate x.hi d) c.region-region.ensures.value ∙ ap (λ (T : State). high T o d) e in
    let v = kept64 c.args.v c.ranges.v.sfits in
    bound_down S c.set_high.new.self.state o d c.args.v c.requires.object (omega (arith, hi_long g.row.K S o shape c.requires.object, c.requires.dimension))
    (omega (arith, ints, c.if-v-high.true, la, ha, v)) (c.set_high.ensures.state ∙ ap (λ (z : ℤ). set S o (with_high (reach S o) d z)) v)

pub returns-else-v-high-clause-narrows : goal.returns-else-v-high-clause-narrows
returns-else-v-high-clause-narrows g c =
    let S = c.args.t.now.state in
    let o = c.args.o.0 in
    let d = c.args.d in
    let e : c.state-state.result.now ≡ S = c.state-state.ensures.value in
    let shape : IsState g.row.K S = subst (IsState g.row.K) e c.objects-objects.ensures.shape in
    let la = kept64 c.get-low.result c.get-low.type_inv ∙ c.get-low.ensures ∙ ap (λ (x : Region). coordinate x.lo d) c.region-region.ensures.value ∙ ap (λ (T : State). low T o d) e in
    let ha = kept64 c.get-high.result c.get-high.type_inv ∙ c.get-high.ensures ∙ ap (λ (x : Region). coordinate x.hi d) c.region-region.ensures.value ∙ ap (λ (T : State). high T o d) e in
    let v = kept64 c.args.v c.ranges.v.sfits in
    same_down S o d c.args.v (omega (arith, ints, c.if-v-high.false, la, ha, v))
