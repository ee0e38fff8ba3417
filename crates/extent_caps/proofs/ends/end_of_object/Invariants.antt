use Rattle.std.proofs.Common.{◌≡◌}
use Rattle.geo_base.specs.Tuple.{spot}
use Rattle.problem_data.specs.Cells.{box_at}
use Rattle.extent_caps.specs.Extents.{IsGreatestOf, box_end}
use Rattle.extent_caps.proofs.Ending.{Below}
use Rattle.extent_caps.proofs.ends.end_of_object.Given as goal

abbrev pub invariant-loop-b : goal.invariant-loop-b
invariant-loop-b l = IsGreatestOf (Below (λ n v. v ≡ box_end (box_at l.own n) (spot l.layout l.o.0).origin l.d) l.b-index) l.greatest
