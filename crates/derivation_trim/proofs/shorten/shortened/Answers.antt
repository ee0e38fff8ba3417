use Rattle.std.proofs.Common.{arith}
use Rattle.derivation_trim.proofs.shorten.shortened.Goals as goal

pub returns-then-events : goal.returns-then-events
returns-then-events g c = grind arith
