use Rattle.std.proofs.Common.{arith}
use Rattle.geo_conditions.proofs.Tuples.{layout_in_greatest, tuple_from_just, spot_from_1}
use Rattle.geo_conditions.proofs.laws.layouts_stay.Goals as goal

pub returns : goal.returns
returns c = λ cs S G t fit inside holds g.
    tuple_from_just t G (λ o b. spot_from_1 t S o inside (omega (arith, b, g.inside.objects))) (layout_in_greatest cs t S G fit inside holds g)
