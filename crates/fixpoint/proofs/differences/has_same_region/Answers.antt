use Rattle.std.proofs.Common.{refl, arith}
use Rattle.geo_conditions.specs.Reach.{nowhere, reach}
use Rattle.fixpoint.proofs.SameReach.{same_region}
use Rattle.fixpoint.proofs.differences.has_same_region.Goals as goal

pub returns : goal.returns
returns g c =
    let S = c.args.a.now in
    let T = c.args.b.now in
    let o = c.args.o.0 in
    let a = c.objects-first.ensures.shape.dims o nowhere c.requires.first in
    let b = c.objects-second.ensures.shape.dims o nowhere c.requires.second in (
      λ t. same_region g.row.K (reach S o).region (reach T o).region a.0 a.1 b.0 b.1 (λ d h. c.loop-d.invariant d (omega (arith, h, c.loop-d-test.false))),
      λ e. refl,
    )
