use Rattle.std.proofs.Common.{◌≢◌, ◌<◌, ℕ, ℤ}
use Rattle.geo_base.specs.Tuple.{spot}
use Rattle.problem_data.specs.Cells.{IsIn}
use Rattle.geo_load.proofs.reach.box_blocks.Given as goal

-- in each dimension looked at, but for d, the boxes have a common number
abbrev pub invariant-loop-e : goal.invariant-loop-e
invariant-loop-e l = (f : ℕ) → f < l.e → f ≢ l.d → (c : ℤ) × (IsIn l.a (spot l.layout l.i.0).origin f c × IsIn l.b (spot l.layout l.j.0).origin f c)
