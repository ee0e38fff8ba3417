use Rattle.std.proofs.Common.{◌+◌, refl, arith, get_or, false}
use Rattle.trail_search.proofs.Listing.{pushed}
use Rattle.trail_search.proofs.variable.push_variables.Goals as goal

pub loop-d-preserved : goal.loop-d-preserved
loop-d-preserved c = pushed c.loop-d.all.items c.push-in-loop-d.new.self.items c.args.all.now.items c.args.o.0 c.loop-d.d (c.loop-d.d + 1) (get_or c.args.down.now c.loop-d.d false) _ c.args.down.now c.in_ok-push-2.ensures.items refl refl (omega arith) c.loop-d-test.true c.loop-d.invariant
