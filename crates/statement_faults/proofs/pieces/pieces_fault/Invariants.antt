use Rattle.std.proofs.Common.{take}
use Rattle.problem_data.specs.Least.{IsLeast}
use Rattle.problem_data.specs.Faults.{Among, PieceFault}
use Rattle.statement_faults.proofs.pieces.pieces_fault.Given as goal

-- the first fault of the pieces so far
abbrev pub invariant-loop-i : goal.invariant-loop-i
invariant-loop-i l = IsLeast (Among PieceFault (take l.i l.pieces)) l.found
