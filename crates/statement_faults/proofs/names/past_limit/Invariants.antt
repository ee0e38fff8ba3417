use Rattle.std.proofs.Common.{take, map}
use Rattle.problem_data.specs.Least.{IsLeast}
use Rattle.problem_data.specs.Faults.{PastLimit}
use Rattle.statement_faults.proofs.names.past_limit.Given as goal

-- the first fault of the names so far
abbrev pub invariant-loop-i : goal.invariant-loop-i
invariant-loop-i g l = IsLeast (PastLimit l.most (take l.i (map g.T.Named.name_of l.items))) l.found
