use Rattle.std.proofs.Common.{◌≡◌, take, map}
use Rattle.problem_data.specs.Meaning.{number_of}
use Rattle.layout_text.proofs.faults.tuple.same_numbers.Given as goal

-- the numbers so far are the same
abbrev pub invariant-loop-i : goal.invariant-loop-i
invariant-loop-i l = map number_of (take l.i l.a) ≡ map number_of (take l.i l.b)
