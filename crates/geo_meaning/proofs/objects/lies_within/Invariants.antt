use Rattle.std.proofs.Common.{◌<◌, ℕ, ℤ, List, map}
use Rattle.geo_base.specs.Tuple.{spot}
use Rattle.problem_data.specs.Cells.{BoxHas, box_at, IsInRanges}
use Rattle.problem_data.specs.ProblemView.{range_data}
use Rattle.geo_meaning.proofs.objects.lies_within.Given as goal

abbrev pub invariant-loop-a : goal.invariant-loop-a
invariant-loop-a l = (n : ℕ) → n < l.a-index → (c : List ℤ) → BoxHas l.problem.dims (box_at l.own n) (spot l.layout l.o.0).origin c → IsInRanges (map range_data l.ranges) c
