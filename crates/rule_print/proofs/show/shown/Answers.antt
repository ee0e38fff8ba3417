use Rattle.std.proofs.Common.{arith}
use Rattle.std.proofs.lemmas.Grind.{common_steps}
use Rattle.rule_print.proofs.show.shown.Goals as goal

pub lexemes-preserved : goal.lexemes-preserved
lexemes-preserved c = grind (arith, common_steps)
