use Rattle.std.proofs.Common.{arith}
use Rattle.statement_faults.proofs.numbers.is_size.Goals as goal

pub returns-then-value-ge1 : goal.returns-then-value-ge1
returns-then-value-ge1 c = grind arith
