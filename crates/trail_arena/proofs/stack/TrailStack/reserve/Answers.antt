use Rattle.std.proofs.Common.{arith}
use Rattle.trail_arena.specs.Chains.{blocks}
use Rattle.trail_arena.proofs.Stacks.{reserved}
use Rattle.trail_arena.proofs.stack.TrailStack.reserve.Goals as goal

pub invariant_of-self-2 : goal.invariant_of-self-2
invariant_of-self-2 g c =
    let p = c.self.inside in
    reserved (blocks p.used) (blocks p.free) (blocks c.link.new.self) c.in_ok-block.block p.len p.spare c.args.n c.self.invariant c.in_ok-block.ensures c.in_ok-link.ensures.ok (omega arith) (omega arith)
