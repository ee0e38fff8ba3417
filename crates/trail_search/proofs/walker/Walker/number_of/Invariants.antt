use Rattle.trail_search.proofs.Finding.{NoneAt}
use Rattle.trail_search.proofs.walker.Walker.number_of.Given as goal

abbrev pub invariant-loop-i : goal.invariant-loop-i
invariant-loop-i g l = NoneAt l.o.0 l.d l.x-items l.i
