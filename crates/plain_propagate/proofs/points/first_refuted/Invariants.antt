use Rattle.std.proofs.Common.{◌≡◌, true, take}
use Rattle.std.specs.List.{All}
use Rattle.geo_conditions.specs.Conditions.{possible}
use Rattle.plain_propagate.proofs.points.first_refuted.Given as goal

abbrev pub invariant-loop-i : goal.invariant-loop-i
invariant-loop-i g l = All (λ c. possible c l.s ≡ true) (take l.i l.cs)
