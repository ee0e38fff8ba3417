use Rattle.std.proofs.Common.{rules, ◌≡◌, ◌+◌, ◌*◌, ◌<◌, List, Some, refl, sym, ap, ◌∙◌, subst, arith, ℤ, pos, ◌≤ℤ◌, ◌<ℤ◌}
use Rattle.std.specs.List.{All}
use Rattle.std.specs.Int.{w128}
use mir.Val.{to_z, of_z}
use lib.Signed.{le_z}
use Rattle.std.proofs.lemmas.Int.{ints}
use Rattle.std.proofs.lemmas.Bool.{false≢true}
use Rattle.geo_base.specs.Boxes.{coordinate, Has}
use Rattle.geo_base.specs.declared.point.Point.{Point}
use Rattle.geo_conditions.specs.Reach.{just, with_at}
use Rattle.geo_conditions.specs.Conditions.{least_value}
use Rattle.geo_conditions.specs.Regions.{region_of}
use Rattle.indexical.proofs.Numbers.{kept128}
use Rattle.indexical.proofs.SoleTerms.{IsTop, corners, purse_is, sole_disjunction, top_greatest, top_possible}
use Rattle.indexical.proofs.cut.side_part.Goals.{then-is_falling, else-is_falling}
use Rattle.indexical.proofs.cut.side_part.Goals as goal

pub returns-then-greatest-le0 : goal.returns-then-greatest-le0
returns-then-greatest-le0 g c = λ q inside.
    let x = c.args.sole.now in
    let b = region_of c.args.region.now in
    let top : IsTop x.factor x.dimension b c.if-is_falling.corner.coordinates = elim c.if-is_falling.branch [
      | then-is_falling w ↦ (λ n. ap (λ (p : Point g.row.K). coordinate p.coordinates x.dimension) w.corner-is, λ p. absurd (omega (arith, ints, w.if-is_falling.ensures.0 refl, p)))
      | else-is_falling w ↦ (λ n. absurd (false≢true (w.if-is_falling.ensures.1 n)), λ p. ap (λ (p : Point g.row.K). coordinate p.coordinates x.dimension) w.corner-is)
    ] in
    let e = kept128 c.value_at-greatest.result c.value_at-greatest.type_inv ∙ c.value_at-greatest.ensures in
    sym (ap (λ (z : ℤ). le_z z (pos 0)) (sym (c.requires.sole.value c.args.place q))) ∙
    top_possible g.row.K x.rest x.factor x.dimension b c.if-is_falling.corner.coordinates q x.inside top inside (sym (ap (λ (z : ℤ). le_z z (pos 0)) e) ∙ c.if-greatest-le0.true)

pub cut_by_sole-requires : goal.cut_by_sole-requires
cut_by_sole-requires g c =
    let x = c.args.sole.now in
    let r = c.args.region.now in
    let ends = corners g.row.K (region_of r) c.if-is_empty.ensures.ends in
    let inside : Has g.row.K r.lo.coordinates r.hi.coordinates c.if-is_falling.corner.coordinates = elim c.if-is_falling.branch [
      | then-is_falling w ↦ subst (λ (p : Point g.row.K). Has g.row.K r.lo.coordinates r.hi.coordinates p.coordinates) (sym w.corner-is) ends.0
      | else-is_falling w ↦ subst (λ (p : Point g.row.K). Has g.row.K r.lo.coordinates r.hi.coordinates p.coordinates) (sym w.corner-is) ends.1
    ] in
    let value : least_value c.args.f.now (with_at c.args.s.now c.args.o.0 c.args.place (just c.if-is_falling.corner.coordinates)) ≡ c.value_at-greatest.result =
    c.requires.sole.value c.args.place c.if-is_falling.corner.coordinates ∙ sym c.value_at-greatest.ensures in
    let own : All (λ a. a.object.0 ≡ c.args.o.0 → Some c.dimension.result ≡ Some a.dimension) c.args.f.now.terms = λ k t h e. ap Some (c.dimension.ensures ∙ sym (c.requires.sole.own k t h e)) in
    let purse = purse_is c.value_at-greatest.result c.value_at-greatest.type_inv c.if-greatest-le0.false in
    let above = value ∙ purse in
    search rules

pub returns : goal.returns
returns g c =
    let f = c.args.f.now in
    let e = c.cut_by_sole.ensures in
    record {
      low = e.low;
      high = e.high;
      refuted = e.refuted;
      whole = λ q has r. e.whole (sole_disjunction c.args.s.now c.args.o.0 c.requires.object f c.args.sole.now.dimension c.requires.sole.own c.terms-terms.ensures.form.in_order) q has r;
    }
