use Rattle.std.proofs.Common.{◌≡◌, ap, sym, ◌∙◌, subst, arith, ℤ}
use Rattle.std.proofs.lemmas.Int.{ints}
use Rattle.std.proofs.lemmas.Bool.{false≢true}
use Rattle.geo_base.specs.Boxes.{coordinate}
use Rattle.geo_conditions.specs.Reach.{low, high, Region}
use Rattle.plain_propagate.specs.Points.{HasEnd}
use Rattle.geo_state.proofs.Numbers.{kept64}
use Rattle.geo_state.proofs.Shapes.{lo_long}
use Rattle.plain_propagate.proofs.Finding.{gone_range, gone_low}
use Rattle.plain_propagate.proofs.defects.end_defect.Goals as goal

pub returns-then-high-low : goal.returns-then-high-low
returns-then-high-low g c =
    let S = c.args.s.now in
    let o = c.args.o.0 in
    let d = c.args.d in
    let la : c.get-low.result ≡ low S o d = c.get-low.ensures ∙ ap (λ (x : Region). coordinate x.lo d) c.region-region.ensures.value in
    let ha : c.get-high.result ≡ high S o d = c.get-high.ensures ∙ ap (λ (x : Region). coordinate x.hi d) c.region-region.ensures.value in
    gone_range c.args.cs.now S o d c.requires.object (omega (arith, ints, c.if-high-low.true, la, ha))

pub returns-then-not-end_supported : goal.returns-then-not-end_supported
returns-then-not-end_supported g c =
    let S = c.args.s.now in
    let o = c.args.o.0 in
    let d = c.args.d in
    let la : c.get-low.result ≡ low S o d = c.get-low.ensures ∙ ap (λ (x : Region). coordinate x.lo d) c.region-region.ensures.value in
    let ha : c.get-high.result ≡ high S o d = c.get-high.ensures ∙ ap (λ (x : Region). coordinate x.hi d) c.region-region.ensures.value in
    let v = kept64 c.get-low.result c.get-low.type_inv ∙ la in
    gone_low c.args.cs.now S o d c.requires.object (λ y. false≢true (sym c.if-not-end_supported.true ∙ c.end_supported.ensures.1 (subst (λ (z : ℤ). HasEnd c.args.cs.now S o d z) (sym v) y)))
    (omega (arith, ints, c.if-low-high.false, la, ha))

pub returns-then-low-high : goal.returns-then-low-high
returns-then-low-high g c =
    let S = c.args.s.now in
    let o = c.args.o.0 in
    let d = c.args.d in
    let la : c.get-low.result ≡ low S o d = c.get-low.ensures ∙ ap (λ (x : Region). coordinate x.lo d) c.region-region.ensures.value in
    let ha : c.get-high.result ≡ high S o d = c.get-high.ensures ∙ ap (λ (x : Region). coordinate x.hi d) c.region-region.ensures.value in
    let v = kept64 c.get-low.result c.get-low.type_inv ∙ la in
    record {
      object = c.requires.object;
      dimension = omega (arith, lo_long g.row.K S o c.objects-objects.ensures.shape c.requires.object, c.requires.dimension);
      wide = omega (arith, ints, c.if-low-high.true, la, ha);
      lacks = λ y. false≢true (sym c.if-not-end_supported.true ∙ c.end_supported.ensures.1 (subst (λ (z : ℤ). HasEnd c.args.cs.now S o d z) (sym v) y));
    }

pub returns-then-low-high-2 : goal.returns-then-low-high-2
returns-then-low-high-2 g c =
    let S = c.args.s.now in
    let o = c.args.o.0 in
    let d = c.args.d in
    let la : c.get-low.result ≡ low S o d = c.get-low.ensures ∙ ap (λ (x : Region). coordinate x.lo d) c.region-region.ensures.value in
    let ha : c.get-high.result ≡ high S o d = c.get-high.ensures ∙ ap (λ (x : Region). coordinate x.hi d) c.region-region.ensures.value in
    let w = kept64 c.get-high.result c.get-high.type_inv ∙ ha in
    record {
      object = c.requires.object;
      dimension = omega (arith, lo_long g.row.K S o c.objects-objects.ensures.shape c.requires.object, c.requires.dimension);
      wide = omega (arith, ints, c.if-low-high-2.true, la, ha);
      lacks = λ y. false≢true (sym c.if-not-end_supported-2.true ∙ c.end_supported-2.ensures.1 (subst (λ (z : ℤ). HasEnd c.args.cs.now S o d z) (sym w) y));
    }

pub returns-then-not-end_supported-2 : goal.returns-then-not-end_supported-2
returns-then-not-end_supported-2 g c =
    let S = c.args.s.now in
    let o = c.args.o.0 in
    let d = c.args.d in
    let la : c.get-low.result ≡ low S o d = c.get-low.ensures ∙ ap (λ (x : Region). coordinate x.lo d) c.region-region.ensures.value in
    let ha : c.get-high.result ≡ high S o d = c.get-high.ensures ∙ ap (λ (x : Region). coordinate x.hi d) c.region-region.ensures.value in
    let w = kept64 c.get-high.result c.get-high.type_inv ∙ ha in
    let e : low S o d ≡ high S o d = omega (arith, ints, c.if-high-low.false, c.if-low-high-2.false, la, ha) in
    gone_low c.args.cs.now S o d c.requires.object (λ y. false≢true (sym c.if-not-end_supported-2.true ∙ c.end_supported-2.ensures.1 (subst (λ (z : ℤ). HasEnd c.args.cs.now S o d z) (e ∙ sym w) y)))
    (omega (arith, ints, c.if-low-high-2.false, la, ha))

pub returns : goal.returns
returns g c =
    let S = c.args.s.now in
    let o = c.args.o.0 in
    let d = c.args.d in
    let la : c.get-low.result ≡ low S o d = c.get-low.ensures ∙ ap (λ (x : Region). coordinate x.lo d) c.region-region.ensures.value in
    let ha : c.get-high.result ≡ high S o d = c.get-high.ensures ∙ ap (λ (x : Region). coordinate x.hi d) c.region-region.ensures.value in
    let v = kept64 c.get-low.result c.get-low.type_inv ∙ la in
    let w = kept64 c.get-high.result c.get-high.type_inv ∙ ha in (
      omega (arith, ints, c.if-high-low.false, la, ha),
      subst (λ (z : ℤ). HasEnd c.args.cs.now S o d z) v (c.end_supported.ensures.0 c.if-not-end_supported.false),
      subst (λ (z : ℤ). HasEnd c.args.cs.now S o d z) w (c.end_supported-2.ensures.0 c.if-not-end_supported-2.false),
    )
