use Rattle.std.proofs.Common.{map}
use Rattle.object_pruning.specs.Gathered.{AllPossible}
use Rattle.object_pruning.specs.Kept.{placed}
use Rattle.object_pruning.specs.Runs.{HaveBetween, start_at}
use Rattle.object_pruning.proofs.unrefuted.is_row_possible.Given as goal

abbrev pub invariant-loop-j : goal.invariant-loop-j
invariant-loop-j g l = AllPossible (map g.I.Indexical.cond l.list) (placed l.s l.o.0 l.q) (HaveBetween l.groups 0 (start_at 0 l.runs l.j))
