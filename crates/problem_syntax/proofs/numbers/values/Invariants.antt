use Rattle.std.proofs.Common.{◌≡◌, take, map}
use Rattle.problem_data.specs.Meaning.{number_of}
use Rattle.problem_syntax.proofs.numbers.values.Given as goal

-- the values so far
abbrev pub invariant-loop-number : goal.invariant-loop-number
invariant-loop-number l = l.found.items ≡ map number_of (take l.number-index l.numbers)
