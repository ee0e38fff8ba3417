use Rattle.std.proofs.Common.{◌≡◌, ap, sym, ◌∙◌, subst}
use Rattle.geo_conditions.specs.declared.object.ObjId.{ObjId}
use Rattle.geo_conditions.specs.Reach.{Region, reach}
use Rattle.geo_conditions.specs.Regions.{region_of}
use Rattle.indexical.specs.Apart.{Clashes}
use Rattle.indexical.proofs.PutBoxes.{overlap_now, clash_now}
use Rattle.indexical.proofs.overlap.must_overlap.Goals as goal

pub returns : goal.returns
returns g c =
    let S = c.args.s.now in
    let a = c.args.a.now in
    let b = c.args.b.now in
    let own : region_of c.region-own.result ≡ (reach S a.object.0).region = c.region-own.ensures.value ∙ ap (λ (o : ObjId). (reach S o.0).region) c.object.ensures in (
      λ h. overlap_now a b S (c.has_shape.ensures.0 c.if-not-has_shape.false) (c.has_shape-else-not-has_shape.ensures.0 c.if-not-has_shape-2.false)
          (subst (λ (r : Region). Clashes a b (reach S b.object.0).region r.lo r.hi) own (c.clashes.ensures.0 h)),
      λ m. c.clashes.ensures.1 (subst (λ (r : Region). Clashes a b (reach S b.object.0).region r.lo r.hi) (sym own) (clash_now a b S m)),
    )
