use Rattle.std.proofs.Common.{take}
use Rattle.problem_data.specs.Least.{IsLeast}
use Rattle.layout_text.specs.Faults.{PiecesFault}
use Rattle.layout_text.proofs.faults.line.pieces_fault.Given as goal

-- the first fault of the numbers so far
abbrev pub invariant-loop-i : goal.invariant-loop-i
invariant-loop-i l = IsLeast (PiecesFault l.pieces (take l.i l.origin)) l.found
