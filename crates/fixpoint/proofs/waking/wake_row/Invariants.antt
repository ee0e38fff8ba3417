use Rattle.std.proofs.Common.{map, length}
use Rattle.object_pruning.proofs.LivePicks.{HaveBelow}
use Rattle.fixpoint.specs.Marks.{IsSquare, MarksAt}
use Rattle.fixpoint.specs.Near.{UnhinderedBy}
use Rattle.fixpoint.specs.Queue.{Queues}
use Rattle.fixpoint.proofs.waking.wake_row.Given as goal

abbrev pub invariant-loop-k : goal.invariant-loop-k
invariant-loop-k g l = record {
  queued : Queues (UnhinderedBy (map (λ x. x.cond) l.list) l.s (HaveBelow l.groups l.k)) l.u.0 l.fn.queued l.queued;
  marked : MarksAt (UnhinderedBy (map (λ x. x.cond) l.list) l.s (HaveBelow l.groups l.k)) l.u.0 l.fn.dirty l.dirty;
  square : IsSquare (length l.fn.queued) l.dirty;
}
