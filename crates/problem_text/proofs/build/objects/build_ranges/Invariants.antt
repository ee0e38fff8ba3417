use Rattle.std.proofs.Common.{◌≡◌, take, map}
use Rattle.problem_data.specs.ProblemView.{range_data}
use Rattle.problem_data.specs.Meaning.{range_of}
use Rattle.problem_text.proofs.build.objects.build_ranges.Given as goal

-- what was made so far
abbrev pub invariant-loop-range : goal.invariant-loop-range
invariant-loop-range l = map range_data l.made.items ≡ map range_of (take l.range-index l.ranges)
