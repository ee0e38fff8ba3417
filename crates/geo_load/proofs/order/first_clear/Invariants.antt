use Rattle.std.proofs.Common.{◌<◌, ℕ, get_or}
use Rattle.geo_load.specs.Order.{BlocksOne}
use Rattle.geo_load.specs.Pairs.{Says}
use Rattle.geo_load.proofs.order.first_clear.Given as goal

-- each of those before blocks another one
abbrev pub invariant-loop-i : goal.invariant-loop-i
invariant-loop-i l = (k d : ℕ) → k < l.i → BlocksOne (Says l.answers) l.left (get_or l.left k d)
