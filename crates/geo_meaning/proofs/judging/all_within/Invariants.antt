use Rattle.std.proofs.Common.{◌<◌, ℕ, map}
use Rattle.problem_data.specs.Cells.{LiesWithin}
use Rattle.problem_data.specs.ProblemView.{range_data}
use Rattle.geo_meaning.proofs.judging.all_within.Given as goal

abbrev pub invariant-loop-o : goal.invariant-loop-o
invariant-loop-o l = (o : ℕ) → o < l.o → LiesWithin l.problem (map range_data l.ranges) l.layout o
