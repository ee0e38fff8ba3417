use Rattle.std.proofs.Common.{◌≡◌, map, take}
use Rattle.problem_data.specs.SomeRules.{numbered}
use Rattle.problem_data.proofs.problem.shared_rules.Given as goal

-- the rules of the numbers looked at were shared
abbrev pub invariant-loop-n : goal.invariant-loop-n
invariant-loop-n l = l.shared.items ≡ map (numbered l.rules) (take l.n-index l.keep)
