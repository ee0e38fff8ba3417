use Rattle.std.proofs.Common.{take, map}
use Rattle.problem_data.specs.View.{order_view}
use Rattle.problem_data.specs.Faults.{OrderFault}
use Rattle.problem_data.proofs.InLists.{among_none, more_view, all_view, before_length}
use Rattle.statement_faults.proofs.order.orders_fault.Goals as goal

pub loop-i-init : goal.loop-i-init
loop-i-init c = among_none (OrderFault c.args.made.now)

pub loop-i-preserved : goal.loop-i-preserved
loop-i-preserved c = more_view order_view c.args.orders.now c.loop-i.i (OrderFault c.args.made.now) c.index-orders-i.result _ _ _ c.loop-i-test.true c.index-orders-i.is c.earlier-found.ensures c.loop-i.invariant (c.in_ok-here.ensures (take c.loop-i.i (map order_view c.args.orders.now)) (before_length order_view c.args.orders.now c.loop-i.i c.loop-i-test.true))

pub returns : goal.returns
returns c = all_view order_view c.args.orders.now c.loop-i.i (OrderFault c.args.made.now) _ c.loop-i-test.false c.loop-i.invariant
