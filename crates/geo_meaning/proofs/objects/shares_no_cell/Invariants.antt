use Rattle.std.proofs.Common.{◌<◌, ℕ, ℤ, List}
use Rattle.geo_base.specs.Tuple.{spot}
use Rattle.problem_data.specs.Cells.{BoxHas, box_at, IsCellOf}
use Rattle.geo_meaning.proofs.objects.shares_no_cell.Given as goal

abbrev pub invariant-loop-a : goal.invariant-loop-a
invariant-loop-a l = (n : ℕ) → n < l.a-index → (c : List ℤ) → BoxHas l.problem.dims (box_at l.own n) (spot l.layout l.o.0).origin c → IsCellOf l.problem l.layout l.u.0 c → ⊥
