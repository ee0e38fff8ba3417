use Rattle.std.proofs.Common.{arith}
use Rattle.std.proofs.lemmas.Grind.{common_steps}
use Rattle.rule_names.proofs.calls.macro_before.Goals as goal

pub returns-then-place-statement : goal.returns-then-place-statement
returns-then-place-statement c = grind (arith, common_steps)
