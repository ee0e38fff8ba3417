use Rattle.problem_data.proofs.InLists.{among_none, more_item, among_all}
use Rattle.statement_faults.proofs.each.try_each_fault.Goals as goal

pub loop-item-init : goal.loop-item-init
loop-item-init g c = among_none (λ before. g.F.TryFindFault.IsFaultOf c.args.find.now)

pub loop-item-preserved : goal.loop-item-preserved
loop-item-preserved g c = more_item (λ before. g.F.TryFindFault.IsFaultOf c.args.find.now) c.args.items.now c.loop-item.item-index c.item-item.result _ _ _ c.loop-item-test.true c.item-item.is c.earlier-found.ensures c.loop-item.invariant c.in_ok-here.ensures

pub returns : goal.returns
returns g c = among_all (λ before. g.F.TryFindFault.IsFaultOf c.args.find.now) c.args.items.now c.loop-item.item-index _ c.loop-item-test.false c.loop-item.invariant
