use Rattle.std.proofs.Common.{◌≢◌, ◌<◌, ℕ, get_or}
use Rattle.geo_load.specs.Pairs.{Says}
use Rattle.geo_load.proofs.order.is_clear.Given as goal

-- the object blocks none of those looked at
abbrev pub invariant-loop-u : goal.invariant-loop-u
invariant-loop-u l = (k d : ℕ) → k < l.u-index → get_or l.left k d ≢ l.o → Says l.answers l.o (get_or l.left k d) → ⊥
