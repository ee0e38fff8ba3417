use Rattle.std.proofs.Common.{map}
use Rattle.object_pruning.specs.Gathered.{AllPossible}
use Rattle.object_pruning.specs.Kept.{placed}
use Rattle.object_pruning.specs.Runs.{HaveBetween}
use Rattle.object_pruning.proofs.unrefuted.are_groups_possible.Given as goal

abbrev pub invariant-loop-k : goal.invariant-loop-k
invariant-loop-k g l = AllPossible (map g.I.Indexical.cond l.list) (placed l.s l.o.0 l.q) (HaveBetween l.groups l.run.first l.k)
