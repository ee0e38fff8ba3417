use Rattle.std.proofs.Common.{◌+◌, arith, map}
use Rattle.trail_search.specs.Variables.{variable_of}
use Rattle.trail_search.proofs.Listing.{listed}
use Rattle.trail_search.proofs.variable.list_variables.Goals as goal

pub loop-o-preserved : goal.loop-o-preserved
loop-o-preserved c =
    listed c.objects-o-items.result.now c.args.order.now.down c.down.result.now c.loop-o.o-index (c.loop-o.o-index + 1) _ (map variable_of c.loop-o.all.items) (map variable_of c.push_variables.new.all.items)
    c.in_ok-push_variables.ensures c.down.ensures c.loop-o.invariant c.loop-o-test.true (omega arith)
