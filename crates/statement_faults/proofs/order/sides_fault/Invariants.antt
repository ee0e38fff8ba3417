use Rattle.std.proofs.Common.{take, map}
use Rattle.problem_data.specs.View.{sides_view}
use Rattle.problem_data.specs.Least.{IsLeast}
use Rattle.problem_data.specs.Faults.{Among, SidesFault}
use Rattle.statement_faults.proofs.order.sides_fault.Given as goal

-- the first fault of the statements so far
abbrev pub invariant-loop-i : goal.invariant-loop-i
invariant-loop-i l = IsLeast (Among (SidesFault l.k) (take l.i (map sides_view l.sides))) l.found
