use Rattle.std.proofs.Common.{arith}
use Rattle.watches.proofs.Resting.{has_only_read}
use Rattle.watches.proofs.beside.form_beside.Goals as goal

pub returns : goal.returns
returns c = λ _.
    has_only_read c.args.f.now c.terms-term-items.result.now c.args.a.0 c.args.b.0 c.terms-term-items.ensures.value (λ i d h. c.loop-term.invariant i d (omega (arith, h, c.loop-term-test.false)))
