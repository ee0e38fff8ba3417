use Rattle.std.proofs.Common.{arith}
use Rattle.std.proofs.lemmas.Int.{ints}
use Rattle.indexical.proofs.overlap.meets.Goals as goal

pub returns : goal.returns
returns c =
    let a = c.at_most.ensures.0 c.if-not-at_most.false in
    let b = c.at_most-2.ensures.0 c.if-not-at_most-2.false in
    let d = c.at_most-3.ensures.0 c.if-not-at_most-3.false in (
      λ h. (let e = c.at_most-4.ensures.0 h in (omega (arith, ints, a), omega (arith, ints, b), omega (arith, ints, d), omega (arith, ints, e))),
      λ f. c.at_most-4.ensures.1 (omega (arith, ints, f.3)),
    )
