use Rattle.std.proofs.Common.{◌≡◌, ◌++◌, map, take, drop}
use Rattle.object_pruning.specs.Kept.{IsAnswered, retried}
use Rattle.object_pruning.proofs.kept.retry.Given as goal

abbrev pub invariant-loop-slot : goal.invariant-loop-slot
invariant-loop-slot g l = record {
  kept : l.kept ≡ map (retried (g.I.Indexical.cond l.x) l.s l.o.0) (take l.slot-index l.fn.kept) ++ drop l.slot-index l.fn.kept;
  last : IsAnswered (g.I.Indexical.cond l.x) l.s l.o.0 l.last;
}
