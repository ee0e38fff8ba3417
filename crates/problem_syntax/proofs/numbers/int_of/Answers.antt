use Rattle.std.proofs.Common.{arith}
use Rattle.problem_syntax.proofs.numbers.int_of.Goals as goal

pub returns : goal.returns
returns c = grind arith
