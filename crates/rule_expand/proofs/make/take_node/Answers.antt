use Rattle.std.proofs.Common.{arith}
use Rattle.rule_expand.proofs.make.take_node.Goals as goal

pub returns : goal.returns
returns c = (omega arith, omega arith)
