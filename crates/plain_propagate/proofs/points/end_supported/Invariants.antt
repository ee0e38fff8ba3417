use Rattle.plain_propagate.proofs.PointSearch.{NoneUpTo}
use Rattle.plain_propagate.proofs.points.end_supported.Given as goal

abbrev pub invariant-loop-place : goal.invariant-loop-place
invariant-loop-place g l = NoneUpTo l.cs l.s l.o.0 l.d l.v l.place
