use Rattle.std.proofs.Common.{ℕ, ◌<◌, map}
use Rattle.std.specs.Prelude.{slice_index}
use Rattle.object_pruning.specs.Gathered.{IsNumberPossible}
use Rattle.object_pruning.specs.Kept.{placed}
use Rattle.object_pruning.proofs.unrefuted.are_all_possible.Given as goal

abbrev pub invariant-loop-k : goal.invariant-loop-k
invariant-loop-k g l = (i : ℕ) → i < l.k → IsNumberPossible (map g.I.Indexical.cond l.list) (placed l.s l.o.0 l.q) (slice_index l.picks i)
