use Rattle.std.proofs.Common.{◌<◌, map, length}
use Rattle.object_pruning.specs.InRows.{IsInGroup}
use Rattle.fixpoint.specs.Marks.{IsSquare, MarksAt}
use Rattle.fixpoint.specs.Near.{UnhinderedBy}
use Rattle.fixpoint.specs.Queue.{Queues}
use Rattle.fixpoint.proofs.waking.wake_others.Given as goal

abbrev pub invariant-loop-i : goal.invariant-loop-i
invariant-loop-i g l = record {
  queued : Queues (UnhinderedBy (map (λ x. x.cond) l.list) l.s (λ i. IsInGroup l.group i × (i < l.i))) l.u.0 l.fn.queued l.queued;
  marked : MarksAt (UnhinderedBy (map (λ x. x.cond) l.list) l.s (λ i. IsInGroup l.group i × (i < l.i))) l.u.0 l.fn.dirty l.dirty;
  square : IsSquare (length l.fn.queued) l.dirty;
}
