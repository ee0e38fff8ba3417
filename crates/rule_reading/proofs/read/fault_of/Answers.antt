use Rattle.std.proofs.Common.{arith}
use Rattle.std.proofs.lemmas.Grind.{common_steps}
use Rattle.rule_reading.proofs.read.fault_of.Goals as goal

pub returns-in-Deep : goal.returns-in-Deep
returns-in-Deep c = grind (arith, common_steps)
