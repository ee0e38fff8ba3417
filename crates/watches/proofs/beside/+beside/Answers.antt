use Rattle.std.proofs.Common.{arith}
use Rattle.watches.proofs.Resting.{names_of_parts}
use Rattle.watches.proofs.beside.+beside.Goals as goal

pub returns-after-loop-child : goal.returns-after-loop-child
returns-after-loop-child t c = λ _.
    names_of_parts c.args.c.now c.in-AtLeast.field-0 c.in-AtLeast.children c.as_slice-child-items.result.now c.args.a.0 c.args.b.0 c.in-AtLeast.is c.as_slice-child-items.ensures (λ i d h. c.loop-child.invariant i d (omega (arith, h, c.loop-child-test.false)))
