use Rattle.std.proofs.Common.{arith}
use Rattle.std.proofs.lemmas.Grind.{common_steps}
use Rattle.rule_syntax.specs.declared.tree.Expr.{the_lemmas}
use Rattle.rule_syntax.proofs.expression.sum_step_of.Goals as goal

pub returns-in_default : goal.returns-in_default
returns-in_default c = grind (arith, common_steps, the_lemmas)
