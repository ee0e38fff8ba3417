use Rattle.std.proofs.Common.{take}
use Rattle.problem_data.specs.Least.{IsLeast}
use Rattle.problem_data.specs.Faults.{NotMade}
use Rattle.statement_faults.proofs.names.not_made.Given as goal

-- the first fault of the names so far
abbrev pub invariant-loop-name : goal.invariant-loop-name
invariant-loop-name l = IsLeast (NotMade l.made (take l.name-index l.names)) l.found
