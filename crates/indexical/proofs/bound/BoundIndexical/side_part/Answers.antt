use Rattle.std.proofs.Common.{arith}
use Rattle.std.proofs.lemmas.Int.{ints}
use Rattle.indexical.proofs.Bounds.{below_part, above_part}
use Rattle.indexical.proofs.bound.BoundIndexical.side_part.Goals as goal

pub returns-then-self : goal.returns-then-self
returns-then-self g c = below_part c.args.self.now c.args.region.now c.requires c.at_most.result _ c.if-self.true (omega (arith, ints, c.args.self.now.small.0, c.args.self.now.small.1))
    c.at_most.ensures.none c.at_most.ensures.some c.at_most.ensures.lo c.at_most.ensures.hi c.at_most.ensures.others

pub returns-else-self : goal.returns-else-self
returns-else-self g c = above_part c.args.self.now c.args.region.now c.requires c.at_least.result _ c.if-self.false (omega (arith, ints, c.args.self.now.small.0, c.args.self.now.small.1))
    c.at_least.ensures.none c.at_least.ensures.some c.at_least.ensures.hi c.at_least.ensures.lo c.at_least.ensures.others
