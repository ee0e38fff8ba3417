use Rattle.std.proofs.Common.{◌-◌}
use Rattle.geo_conditions.specs.Regions.{region_of}
use Rattle.plain_propagate.proofs.PointSearch.{NoneBelow}
use Rattle.plain_propagate.proofs.points.+any_point.Given as goal

abbrev pub decreases-any_point : goal.decreases-any_point
decreases-any_point g l = g.row.K - l.d

abbrev pub invariant-loop-v : goal.invariant-loop-v
invariant-loop-v g l = NoneBelow l.cs l.s l.o.0 l.place (region_of l.b) l.p.coordinates l.d l.from l.v
