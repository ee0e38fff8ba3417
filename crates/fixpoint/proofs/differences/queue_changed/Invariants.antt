use Rattle.std.proofs.Common.{map, length}
use Rattle.fixpoint.specs.Marks.{IsSquare}
use Rattle.fixpoint.proofs.Woken.{CaughtBelow, NotedBelow}
use Rattle.fixpoint.proofs.Watching.{LaterBelow}
use Rattle.fixpoint.proofs.differences.queue_changed.Given as goal

abbrev pub invariant-loop-u : goal.invariant-loop-u
invariant-loop-u g l = record {
  caught : CaughtBelow (map (λ x. x.cond) l.list) l.u l.from l.to l.fn.queued l.queued;
  noted : NotedBelow (map (λ x. x.cond) l.list) l.u l.from l.to l.fn.dirty l.dirty;
  square : IsSquare (length l.fn.queued) l.dirty;
  later : LaterBelow l.u l.from l.to l.fn.watches l.watches;
}
