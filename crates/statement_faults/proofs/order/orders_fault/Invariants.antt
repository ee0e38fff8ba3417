use Rattle.std.proofs.Common.{take, map}
use Rattle.problem_data.specs.View.{order_view}
use Rattle.problem_data.specs.Least.{IsLeast}
use Rattle.problem_data.specs.Faults.{Among, OrderFault}
use Rattle.statement_faults.proofs.order.orders_fault.Given as goal

-- the first fault of the statements so far
abbrev pub invariant-loop-i : goal.invariant-loop-i
invariant-loop-i l = IsLeast (Among (OrderFault l.made) (take l.i (map order_view l.orders))) l.found
