use Rattle.std.proofs.Common.{arith}
use Rattle.derivation_reading.proofs.production.signed.Goals as goal

pub returns-in-Minus : goal.returns-in-Minus
returns-in-Minus c = rw c.in-Minus.is (grind arith)
