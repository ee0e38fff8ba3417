use Rattle.std.proofs.Common.{arith}
use Rattle.printed_derivation.proofs.printable.is_small.Goals as goal

pub returns-then-v-geminus1000000000 : goal.returns-then-v-geminus1000000000
returns-then-v-geminus1000000000 c = grind arith
