use Rattle.std.proofs.Common.{arith}
use Rattle.std.proofs.lemmas.Bool.{eqb-true}
use Rattle.std.proofs.lemmas.Int.{ints}
use Rattle.condition_parts.proofs.parts.is_count.Goals as goal

pub returns-then-n-ge0 : goal.returns-then-n-ge0
returns-then-n-ge0 c = λ e. omega (arith, ints, eqb-true _ _ e, c.if-n-ge0.true)
