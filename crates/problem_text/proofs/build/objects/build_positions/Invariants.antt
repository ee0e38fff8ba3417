use Rattle.std.proofs.Common.{◌≡◌, take, map}
use Rattle.problem_data.specs.Meaning.{position_of}
use Rattle.problem_text.proofs.build.objects.build_positions.Given as goal

-- what was made so far
abbrev pub invariant-loop-name : goal.invariant-loop-name
invariant-loop-name l = l.made.items ≡ map (position_of l.met) (take l.name-index l.names)
