use Rattle.std.proofs.Common.{◌<◌, ℕ, ℤ}
use Rattle.geo_base.specs.Tuple.{spot}
use Rattle.problem_data.specs.Cells.{IsIn}
use Rattle.geo_meaning.proofs.boxes.box_shares_no_cell.Given as goal

abbrev pub invariant-loop-d : goal.invariant-loop-d
invariant-loop-d l = (e : ℕ) → e < l.d → (c : ℤ) × (IsIn l.a (spot l.layout l.o.0).origin e c × IsIn l.b (spot l.layout l.u.0).origin e c)
