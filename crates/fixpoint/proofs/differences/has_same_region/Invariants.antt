use Rattle.std.proofs.Common.{◌≡◌, ◌<◌, ℕ}
use Rattle.geo_conditions.specs.Reach.{low, high}
use Rattle.fixpoint.proofs.differences.has_same_region.Given as goal

-- so far each end is the same
abbrev pub invariant-loop-d : goal.invariant-loop-d
invariant-loop-d g l = (e : ℕ) → e < l.d → (low l.a l.o.0 e ≡ low l.b l.o.0 e) × (high l.a l.o.0 e ≡ high l.b l.o.0 e)
