use Rattle.trail_search.proofs.Moves.{NoneAfter}
use Rattle.trail_search.proofs.narrow.has_place_after.Given as goal

abbrev pub invariant-loop-place : goal.invariant-loop-place
invariant-loop-place g l = NoneAfter l.s l.o.0 l.v l.place
