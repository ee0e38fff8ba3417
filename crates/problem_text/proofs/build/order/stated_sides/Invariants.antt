use Rattle.std.proofs.Common.{◌≡◌, take, map}
use Rattle.problem_data.specs.Meaning.{side_of}
use Rattle.problem_text.proofs.build.order.stated_sides.Given as goal

-- what was made so far
abbrev pub invariant-loop-one : goal.invariant-loop-one
invariant-loop-one l = l.made.items ≡ map side_of (take l.one-index l.sides)
