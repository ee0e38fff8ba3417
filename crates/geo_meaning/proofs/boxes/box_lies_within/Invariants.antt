use Rattle.std.proofs.Common.{◌<◌, ◌≤ℤ◌, ℕ, ℤ, map}
use Rattle.geo_base.specs.Tuple.{spot}
use Rattle.problem_data.specs.Cells.{IsIn, range_at}
use Rattle.problem_data.specs.ProblemView.{range_data}
use Rattle.geo_meaning.proofs.boxes.box_lies_within.Given as goal

abbrev pub invariant-loop-d : goal.invariant-loop-d
invariant-loop-d l = (e : ℕ) → e < l.d → (v : ℤ) → IsIn l.a (spot l.layout l.o.0).origin e v
    → ((range_at (map range_data l.ranges) e).low ≤ℤ v) × (v ≤ℤ (range_at (map range_data l.ranges) e).high)
