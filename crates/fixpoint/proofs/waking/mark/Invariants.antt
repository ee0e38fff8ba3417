use Rattle.std.proofs.Common.{take}
use Rattle.fixpoint.proofs.Woken.{Marked}
use Rattle.fixpoint.proofs.waking.mark.Given as goal

abbrev pub invariant-loop-o : goal.invariant-loop-o
invariant-loop-o l = Marked l.u (take l.o-index l.list) l.fn.queued l.queued l.fn.dirty l.dirty
