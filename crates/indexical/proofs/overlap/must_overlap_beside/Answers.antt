use Rattle.geo_conditions.specs.Reach.{just}
use Rattle.indexical.proofs.PutBoxes.{overlap_beside, clash_out}
use Rattle.indexical.proofs.overlap.must_overlap_beside.Goals as goal

pub returns : goal.returns
returns g c =
    let a = c.args.a.now in
    let b = c.args.b.now in
    let S = c.args.s.now in
    let p = just c.args.c.now.coordinates in (
      λ h. overlap_beside a b S c.args.place c.requires.first c.requires.objects p (c.stands.ensures.0 c.if-not-stands.false) (c.has_shape.ensures.0 c.if-not-has_shape.false) (c.clashes.ensures.0 h),
      λ m. c.clashes.ensures.1 (clash_out a b S c.args.place c.requires.first c.requires.objects p m),
    )
