use Rattle.std.proofs.Common.{◌<◌, map}
use Rattle.object_pruning.specs.InRows.{IsInGroup}
use Rattle.fixpoint.specs.Kept.{RetriesThose}
use Rattle.watches.specs.Watches.{Hold}
use Rattle.fixpoint.proofs.kept.retry_group.Given as goal

abbrev pub invariant-loop-i : goal.invariant-loop-i
invariant-loop-i g l = record {
  asked : RetriesThose (map (λ x. x.cond) l.list) l.s l.o.0 l.marks (λ i. IsInGroup l.group i × (i < l.i)) l.fn.kept l.kept;
  hold : Hold (map (λ x. x.cond) l.list) l.s l.watches;
}
