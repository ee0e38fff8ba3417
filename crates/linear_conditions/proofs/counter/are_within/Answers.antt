use Rattle.std.proofs.Common.{arith}
use Rattle.std.proofs.lemmas.Bool.Decides.{nat_tests}
use Rattle.linear_conditions.proofs.counter.are_within.Goals as goal

pub returns-then-leaves-le-MOST_LEAVES : goal.returns-then-leaves-le-MOST_LEAVES
returns-then-leaves-le-MOST_LEAVES c = grind (arith, nat_tests)
