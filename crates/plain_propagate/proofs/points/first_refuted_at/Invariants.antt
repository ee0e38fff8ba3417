use Rattle.std.proofs.Common.{◌≡◌, true, take}
use Rattle.std.specs.List.{All}
use Rattle.geo_conditions.specs.Reach.{with_at}
use Rattle.geo_conditions.specs.Conditions.{possible}
use Rattle.geo_conditions.specs.Regions.{region_of}
use Rattle.plain_propagate.proofs.points.first_refuted_at.Given as goal

abbrev pub invariant-loop-i : goal.invariant-loop-i
invariant-loop-i g l = All (λ c. possible c (with_at l.s l.o.0 l.place (region_of l.b)) ≡ true) (take l.i l.cs)
