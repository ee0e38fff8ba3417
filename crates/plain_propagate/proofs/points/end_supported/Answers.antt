use Rattle.std.proofs.Common.{rules, ◌≡◌, ◌<◌, arith, sym, ap, ◌∙◌, refl, subst, ℤ, length}
use Rattle.std.specs.Int.{w64}
use mir.Val.{to_z, of_z}
use Rattle.std.proofs.lemmas.Bool.{false≢true}
use Rattle.geo_conditions.specs.Reach.{reach, Region}
use Rattle.geo_conditions.specs.Regions.{region_of}
use Rattle.geo_state.proofs.Numbers.{kept64}
use Rattle.plain_propagate.specs.Points.{cut_to}
use Rattle.plain_propagate.proofs.PointSearch.{end_from, end_to, none_next, none_end, NoneUpTo}
use Rattle.plain_propagate.proofs.points.end_supported.Goals as goal
use Rattle.plain_propagate.proofs.points.end_supported.Goals.{else-has_shape-via-then-has_shape+else-any_point, else-has_shape-via-else-has_shape}

pub returns-then-any_point : goal.returns-then-any_point
returns-then-any_point g c =
    let S = c.args.s.now in
    let o = c.args.o.0 in
    let d = c.args.d in
    let r = (reach S o).region in
    let kept = kept64 c.args.v c.ranges.v.sfits in
    let same : region_of c.region-region.result ≡ r = c.region-region.ensures.value in
    let q : region_of c.cut_to-cut.result ≡ cut_to r d c.args.v = c.cut_to-cut.ensures ∙ ap (λ (x : Region). cut_to x d (to_z w64 (of_z w64 c.args.v))) same ∙ ap (λ (z : ℤ). cut_to r d z) kept in
    let k : d < length r.lo = omega (arith, c.region-region.ensures.dimensions, c.requires.dimension) in
    let long : length c.region-region.result.hi.coordinates ≡ g.row.K = search rules in
    let l : d < length r.hi = omega (arith, ap (λ (x : Region). length x.hi) same, long, c.requires.dimension) in
    (λ t. end_from c.args.cs.now S o d c.loop-place.place c.args.v (region_of c.cut_to-cut.result) c.cut_to-cut.result.lo.coordinates k l c.requires.within.0 c.requires.within.1 q (sym c.has_shape.ensures ∙ c.if-has_shape.true) (c.any_point.ensures.0 c.if-any_point.true), λ y. refl)

pub loop-place-preserved : goal.loop-place-preserved
loop-place-preserved g c =
    let S = c.args.s.now in
    let o = c.args.o.0 in
    let d = c.args.d in
    let r = (reach S o).region in
    let kept = kept64 c.args.v c.ranges.v.sfits in
    let same : region_of c.region-region.result ≡ r = c.region-region.ensures.value in
    let q : region_of c.cut_to-cut.result ≡ cut_to r d c.args.v = c.cut_to-cut.ensures ∙ ap (λ (x : Region). cut_to x d (to_z w64 (of_z w64 c.args.v))) same ∙ ap (λ (z : ℤ). cut_to r d z) kept in
    let k : d < length r.lo = omega (arith, c.region-region.ensures.dimensions, c.requires.dimension) in
    let long : length c.region-region.result.hi.coordinates ≡ g.row.K = search rules in
    let l : d < length r.hi = omega (arith, ap (λ (x : Region). length x.hi) same, long, c.requires.dimension) in
    none_next c.args.cs.now S o d (to_z w64 (of_z w64 c.args.v)) c.loop-place.place c.loop-place.invariant (λ p y e.
    elim c.else-has_shape.branch [
      | else-has_shape-via-then-has_shape+else-any_point w ↦ false≢true (sym w.if-any_point.false ∙ w.any_point.ensures.1 (end_to c.args.cs.now S o d c.loop-place.place c.args.v (region_of c.cut_to-cut.result) c.cut_to-cut.result.lo.coordinates p k l q y (e ∙ kept)))
      | else-has_shape-via-else-has_shape w ↦ false≢true (sym w.if-has_shape.false ∙ c.has_shape.ensures ∙ y.place)
    ])

pub returns : goal.returns
returns g c = (λ t. absurd (false≢true t), λ y. absurd (none_end c.args.cs.now c.args.s.now c.args.o.0 c.args.d c.args.v c.loop-place.place c.region-region.ensures.places (omega arith) (subst (λ (v : ℤ). NoneUpTo c.args.cs.now c.args.s.now c.args.o.0 c.args.d v c.loop-place.place) (kept64 c.args.v c.ranges.v.sfits) c.loop-place.invariant) y))
