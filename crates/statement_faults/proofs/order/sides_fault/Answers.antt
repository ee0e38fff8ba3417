use Rattle.std.proofs.Common.{take, map}
use Rattle.problem_data.specs.View.{sides_view}
use Rattle.problem_data.specs.Faults.{SidesFault}
use Rattle.problem_data.proofs.InLists.{among_none, more_view, all_view, before_length}
use Rattle.statement_faults.proofs.order.sides_fault.Goals as goal

pub loop-i-init : goal.loop-i-init
loop-i-init c = among_none (SidesFault c.args.k)

pub loop-i-preserved : goal.loop-i-preserved
loop-i-preserved c = more_view sides_view c.args.sides.now c.loop-i.i (SidesFault c.args.k) c.index-sides-i.result _ _ _ c.loop-i-test.true c.index-sides-i.is c.earlier-found.ensures c.loop-i.invariant (c.some_sides_fault-here.ensures (take c.loop-i.i (map sides_view c.args.sides.now)) (before_length sides_view c.args.sides.now c.loop-i.i c.loop-i-test.true))

pub returns : goal.returns
returns c = all_view sides_view c.args.sides.now c.loop-i.i (SidesFault c.args.k) _ c.loop-i-test.false c.loop-i.invariant
