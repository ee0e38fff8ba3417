use Rattle.geo_state.proofs.SmallEnds.{SmallDimensions}
use Rattle.geo_state.proofs.small.has_small_ends.Given as goal

abbrev pub invariant-loop-d : goal.invariant-loop-d
invariant-loop-d g l = SmallDimensions l.s l.o.0 l.d
