use Rattle.std.proofs.Common.{◌<◌, map}
use Rattle.object_pruning.specs.Gathered.{AllPossible}
use Rattle.object_pruning.specs.InRows.{IsInGroup}
use Rattle.object_pruning.specs.Kept.{placed}
use Rattle.object_pruning.proofs.unrefuted.are_possible.Given as goal

abbrev pub invariant-loop-i : goal.invariant-loop-i
invariant-loop-i g l = AllPossible (map g.I.Indexical.cond l.list) (placed l.s l.o.0 l.q) (λ i. IsInGroup l.group i × (i < l.i))
