use Rattle.std.proofs.Common.{◌≢◌, ◌<◌, ℕ, get_or}
use Rattle.geo_load.proofs.walk.position.Given as goal

abbrev pub invariant-loop-k : goal.invariant-loop-k
invariant-loop-k l = (j d : ℕ) → j < l.k → get_or l.path j d ≢ l.o
