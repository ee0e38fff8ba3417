use Rattle.geo_meaning.proofs.Pairs.{IsApartBefore}
use Rattle.geo_meaning.proofs.judging.all_apart.Given as goal

abbrev pub invariant-loop-o : goal.invariant-loop-o
invariant-loop-o l = IsApartBefore l.problem l.layout l.o
