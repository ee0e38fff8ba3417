use Rattle.std.proofs.Common.{◌<◌, ℕ, ℤ, List}
use Rattle.geo_base.specs.Tuple.{spot}
use Rattle.problem_data.specs.Cells.{BoxHas, box_at}
use Rattle.geo_meaning.proofs.objects.shares_none_of.Given as goal

abbrev pub invariant-loop-b : goal.invariant-loop-b
invariant-loop-b l = (n : ℕ) → n < l.b-index → (c : List ℤ) → BoxHas l.problem.dims l.a (spot l.layout l.o.0).origin c → BoxHas l.problem.dims (box_at l.others n) (spot l.layout l.u.0).origin c → ⊥
