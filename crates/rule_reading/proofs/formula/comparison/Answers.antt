use Rattle.std.proofs.Common.{arith}
use Rattle.std.proofs.lemmas.Grind.{common_steps}
use Rattle.rule_syntax.specs.declared.tree.Formula.{the_lemmas}
use Rattle.rule_reading.proofs.formula.comparison.Goals as goal

pub returns : goal.returns
returns c = grind (arith, common_steps, the_lemmas)
