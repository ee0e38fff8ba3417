use Rattle.geo_base.specs.Tuple.{Tuple}
use Rattle.problem_data.specs.Cells.{IsWideTuple}
use Rattle.trail_search.specs.Next.{HasFound}
use Rattle.layout_search.proofs.Spots.{IsTaken}
use Rattle.layout_search.proofs.start.take_layout.Given as goal

-- the first objects are put as in the tuple that was found
abbrev pub invariant-loop-i : goal.invariant-loop-i
invariant-loop-i g l = (t : Tuple) → HasFound l.search t → IsWideTuple l.problem t → IsTaken l.problem t l.layout l.i
