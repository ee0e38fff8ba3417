use Rattle.extent_caps.specs.Extents.{IsBoxEndOf, IsGreatestOf}
use Rattle.extent_caps.proofs.Ending.{Below}
use Rattle.extent_caps.proofs.ends.end_of.Given as goal

abbrev pub invariant-loop-o : goal.invariant-loop-o
invariant-loop-o l = IsGreatestOf (Below (IsBoxEndOf l.problem l.layout l.d) l.o) l.greatest
