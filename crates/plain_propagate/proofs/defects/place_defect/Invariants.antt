use Rattle.plain_propagate.proofs.Finding.{PlacesUpTo}
use Rattle.plain_propagate.proofs.defects.place_defect.Given as goal

abbrev pub invariant-loop-place : goal.invariant-loop-place
invariant-loop-place g l = PlacesUpTo l.cs l.s l.o.0 l.any l.place
