use Rattle.std.proofs.Common.{◌≡◌, length, true, false, arith}
use Rattle.geo_conditions.specs.Reach.{dims}
use Rattle.geo_state.proofs.Shapes.{lo_long}
use Rattle.object_pruning.proofs.settled.is_settled.Goals as goal

pub returns : goal.returns
returns g c = λ t cs a.
    let S = c.args.s.now in
    let o = c.args.o.0 in
    let tight = c.are_ends_settled.ensures t cs a in
    let long : dims S o ≡ g.row.K = lo_long g.row.K S o c.objects-objects.ensures.shape c.requires.object in
    record {
      places = c.are_places_settled.ensures c.if-not-are_places_settled.false cs a;
      lows = λ d h. tight d true (omega (arith, h, long));
      highs = λ d h. tight d false (omega (arith, h, long));
    }
