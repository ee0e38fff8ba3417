use Rattle.std.proofs.Common.{◌<◌, ℕ}
use Rattle.problem_data.specs.Cells.{NoCommonCell}
use Rattle.geo_meaning.proofs.judging.apart_from_earlier.Given as goal

abbrev pub invariant-loop-u : goal.invariant-loop-u
invariant-loop-u l = (u : ℕ) → u < l.u → NoCommonCell l.problem l.layout l.o u
