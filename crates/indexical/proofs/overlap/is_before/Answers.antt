use Rattle.std.proofs.Common.{arith}
use Rattle.std.proofs.lemmas.Int.{ints}
use Rattle.indexical.proofs.overlap.is_before.Goals as goal

pub returns : goal.returns
returns c = (
  λ h. omega (arith, ints, c.is_below.ensures.0 h, c.from.ensures, c.from-2.ensures, c.from-3.ensures),
  λ h. c.is_below.ensures.1 (omega (arith, ints, h, c.from.ensures, c.from-2.ensures, c.from-3.ensures)),
)
