use Rattle.std.proofs.Common.{◌<◌, ℕ, Bool, List}
use Rattle.geo_conditions.specs.declared.cond.Cond.{Cond}
use Rattle.object_pruning.specs.Ends.{IsTightEnd}
use Rattle.object_pruning.specs.Kept.{AllSupport}
use Rattle.object_pruning.proofs.settled.are_ends_settled.Given as goal

-- so far each end has a point that is kept
abbrev pub invariant-loop-d : goal.invariant-loop-d
invariant-loop-d g l = (cs : List Cond) → AllSupport cs l.s l.o.0 l.kept → (d : ℕ) (up : Bool) → d < l.d → IsTightEnd cs l.s l.o.0 d up
