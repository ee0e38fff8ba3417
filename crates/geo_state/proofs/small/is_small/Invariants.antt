use Rattle.geo_state.proofs.SmallEnds.{SmallObjects}
use Rattle.geo_state.proofs.small.is_small.Given as goal

abbrev pub invariant-loop-i : goal.invariant-loop-i
invariant-loop-i g l = SmallObjects l.s l.i
