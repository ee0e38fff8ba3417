use Rattle.std.proofs.Common.{take, map}
use Rattle.problem_data.specs.View.{box_view}
use Rattle.problem_data.specs.Least.{IsLeast}
use Rattle.problem_data.specs.Faults.{Among, BoxFault}
use Rattle.statement_faults.proofs.shapes.shape_fault.Given as goal

-- the first fault of the boxes so far
abbrev pub invariant-loop-i : goal.invariant-loop-i
invariant-loop-i l = IsLeast (Among (BoxFault l.k) (take l.i (map box_view l.shape.boxes.items))) l.found
