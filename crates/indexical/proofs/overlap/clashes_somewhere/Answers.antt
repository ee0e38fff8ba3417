use Rattle.std.proofs.Common.{arith}
use Rattle.std.proofs.lemmas.Int.{ints}
use Rattle.indexical.proofs.overlap.clashes_somewhere.Goals as goal

pub returns : goal.returns
returns c = (
  λ h. omega (arith, ints, c.at_most.ensures.0 h, c.first_past.ensures, c.last_before.ensures),
  λ f. c.at_most.ensures.1 (omega (arith, ints, f, c.first_past.ensures, c.last_before.ensures)),
)
