use Rattle.std.proofs.Common.{◌≡◌, ◌++◌, map, take, drop}
use Rattle.fixpoint.specs.Kept.{at_most_0}
use Rattle.fixpoint.proofs.kept.retry_sole.Given as goal

abbrev pub invariant-loop-slot : goal.invariant-loop-slot
invariant-loop-slot g l = l.kept ≡ map (at_most_0 l.sole) (take l.slot-index l.fn.kept) ++ drop l.slot-index l.fn.kept
