use Rattle.std.proofs.Common.{arith}
use Rattle.std.proofs.lemmas.Grind.{common_steps}
use Rattle.derivation_reading.proofs.names.dimension_of.Goals as goal

pub returns-then-number-dims : goal.returns-then-number-dims
returns-then-number-dims c = grind (arith, common_steps)
