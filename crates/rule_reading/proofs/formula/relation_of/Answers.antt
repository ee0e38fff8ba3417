use Rattle.std.proofs.Common.{arith}
use Rattle.std.proofs.lemmas.Grind.{common_steps}
use Rattle.rule_reading.proofs.formula.relation_of.Goals as goal

pub returns-in-Symbol-LessEqual : goal.returns-in-Symbol-LessEqual
returns-in-Symbol-LessEqual c = grind (arith, common_steps)
