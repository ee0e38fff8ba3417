use Rattle.std.proofs.Common.{arith}
use Rattle.statement_faults.proofs.numbers.upside_down.Goals as goal

pub returns : goal.returns
returns c = grind arith
