use Rattle.trail_search.specs.Next.{HasFound}
use Rattle.layout_search.proofs.Spots.{IsPut}
use Rattle.layout_search.proofs.start.put_spot.Given as goal

-- the place and the first coordinates are those of the tuple that was found
abbrev pub invariant-loop-d : goal.invariant-loop-d
invariant-loop-d g l = IsPut (HasFound l.search) g.row.K l.o.0 l.fn.layout l.layout l.d
