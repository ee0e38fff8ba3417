use Rattle.std.proofs.Common.{take}
use Rattle.problem_data.specs.Least.{IsLeast}
use Rattle.problem_data.specs.Faults.{Among}
use Rattle.statement_faults.proofs.each.try_each_fault.Given as goal

-- the first fault of the items so far
abbrev pub invariant-loop-item : goal.invariant-loop-item
invariant-loop-item g l = IsLeast (Among (λ before. g.F.TryFindFault.IsFaultOf l.find) (take l.item-index l.items)) l.found
