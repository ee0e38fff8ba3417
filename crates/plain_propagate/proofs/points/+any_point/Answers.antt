use Rattle.std.proofs.Common.{rules, length, ◌≡◌, ◌+◌, arith, sym, ap, ◌∙◌, refl, subst, List, ℤ, pos, ◌+ℤ◌}
use Rattle.std.proofs.lemmas.Int.{ints}
use Rattle.std.specs.Int.{w64}
use mir.Val.{to_z, of_z}
use Rattle.std.proofs.lemmas.Bool.{false≢true}
use Rattle.geo_base.specs.declared.point.Point.{Point}
use Rattle.geo_state.proofs.Numbers.{kept64}
use Rattle.geo_conditions.specs.Regions.{region_of}
use Rattle.plain_propagate.specs.Points.{HasPoint}
use Rattle.plain_propagate.proofs.PointSearch.{found, none_more, whole_in, whole_out, box_test, ended, NoneBelow}
use Rattle.plain_propagate.proofs.points.+any_point.Goals as goal

pub returns-then-any_point : goal.returns-then-any_point
returns-then-any_point g t c =
    (λ y. found c.args.cs.now c.args.s.now c.args.o.0 c.args.place (region_of c.args.b.now) c.args.p.coordinates c.args.d _ (subst (λ (q : List ℤ). HasPoint c.args.cs.now c.args.s.now c.args.o.0 c.args.place (region_of c.args.b.now) q (c.args.d + 1)) c.with.ensures.whole (c.any_point.ensures.0 c.if-any_point.true)), λ y. refl)

pub loop-v-preserved : goal.loop-v-preserved
loop-v-preserved g t c =
    none_more c.args.cs.now c.args.s.now c.args.o.0 c.args.place (region_of c.args.b.now) c.args.p.coordinates c.args.d _ _ _ c.loop-v.invariant (λ y. false≢true (sym c.if-any_point.false ∙ c.any_point.ensures.1 (subst (λ (q : List ℤ). HasPoint c.args.cs.now c.args.s.now c.args.o.0 c.args.place (region_of c.args.b.now) q (c.args.d + 1)) (sym c.with.ensures.whole) y))) (omega (arith, ints))

pub returns-then-has : goal.returns-then-has
returns-then-has g t c =
    let b = region_of c.args.b.now in
    let p = c.args.p.coordinates in
    let w : length p ≡ g.row.K = search rules in
    whole_in c.args.cs.now c.args.s.now c.args.o.0 c.args.place b (region_of c.new.result) p g.row.K c.args.d c.none_refuted_at.result c.if-d.true w
    ((box_test b p g.row.K c.has.result w c.requires.lows c.requires.highs c.has.ensures).0 c.if-has.true) (ap (λ (q : Point g.row.K). q.coordinates) c.new.ensures.lo) (ap (λ (q : Point g.row.K). q.coordinates) c.new.ensures.hi) c.none_refuted_at.ensures

pub returns-else-d : goal.returns-else-d
returns-else-d g t c =
    ended c.args.cs.now c.args.s.now c.args.o.0 c.args.place (region_of c.args.b.now) c.args.p.coordinates c.args.d (to_z w64 (of_z w64 c.get-from.result)) (to_z w64 (of_z w64 c.get-to.result)) (to_z w64 c.loop-v.v-bits) (let w : length c.args.p.coordinates ≡ g.row.K = search rules in omega (arith, c.requires.dimension, w, c.if-d.false)) (kept64 c.get-from.result c.get-from.type_inv ∙ c.get-from.ensures) (kept64 c.get-to.result c.get-to.type_inv ∙ c.get-to.ensures) c.loop-v.invariant (omega (arith, ints))

pub returns-else-any_point : goal.returns-else-any_point
returns-else-any_point g t c =
    let below : NoneBelow c.args.cs.now c.args.s.now c.args.o.0 c.args.place (region_of c.args.b.now) c.args.p.coordinates c.args.d (to_z w64 (of_z w64 c.get-from.result)) (to_z w64 c.loop-v.v-bits +ℤ pos 1) = none_more c.args.cs.now c.args.s.now c.args.o.0 c.args.place (region_of c.args.b.now) c.args.p.coordinates c.args.d _ _ _ c.loop-v.invariant (λ y. false≢true (sym c.if-any_point.false ∙ c.any_point.ensures.1 (subst (λ (q : List ℤ). HasPoint c.args.cs.now c.args.s.now c.args.o.0 c.args.place (region_of c.args.b.now) q (c.args.d + 1)) (sym c.with.ensures.whole) y))) refl in
    ended c.args.cs.now c.args.s.now c.args.o.0 c.args.place (region_of c.args.b.now) c.args.p.coordinates c.args.d (to_z w64 (of_z w64 c.get-from.result)) (to_z w64 (of_z w64 c.get-to.result)) (to_z w64 c.loop-v.v-bits +ℤ pos 1) (let w : length c.args.p.coordinates ≡ g.row.K = search rules in omega (arith, c.requires.dimension, w, c.if-d.false)) (kept64 c.get-from.result c.get-from.type_inv ∙ c.get-from.ensures) (kept64 c.get-to.result c.get-to.type_inv ∙ c.get-to.ensures) below (omega (arith, ints))

pub returns-else-has : goal.returns-else-has
returns-else-has g t c =
    let b = region_of c.args.b.now in
    let p = c.args.p.coordinates in
    let w : length p ≡ g.row.K = search rules in
    whole_out c.args.cs.now c.args.s.now c.args.o.0 c.args.place b p g.row.K c.args.d c.has.result c.if-d.true w c.requires.lows c.if-has.false (box_test b p g.row.K c.has.result w c.requires.lows c.requires.highs c.has.ensures)
