use Rattle.std.proofs.Common.{take, map}
use Rattle.problem_data.specs.Least.{IsLeast}
use Rattle.layout_text.specs.View.{line_view}
use Rattle.layout_text.specs.Faults.{LinesFault}
use Rattle.layout_text.proofs.faults.lines_fault.Given as goal

-- the first fault of the lines so far
abbrev pub invariant-loop-i : goal.invariant-loop-i
invariant-loop-i l = IsLeast (LinesFault l.problem (take l.i (map line_view l.lines))) l.found
