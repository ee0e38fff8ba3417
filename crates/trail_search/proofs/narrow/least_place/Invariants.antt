use Rattle.trail_search.proofs.Moves.{NoneFrom}
use Rattle.trail_search.proofs.narrow.least_place.Given as goal

abbrev pub invariant-loop-place : goal.invariant-loop-place
invariant-loop-place g l = NoneFrom l.s l.o.0 l.place
