use Rattle.std.proofs.Common.{◌≡◌, map}
use Rattle.std.specs.List.{range_with_len}
use Rattle.problem_data.specs.Places.{first_value}
use Rattle.layout_text.proofs.first.first_values.Given as goal

-- the first values of the dimensions so far
abbrev pub invariant-loop-d : goal.invariant-loop-d
invariant-loop-d l = l.values.items ≡ map (first_value l.problem l.object) (range_with_len 0 l.d)
