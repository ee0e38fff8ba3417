use Rattle.fixpoint.proofs.Partnering.{NumbersBelow}
use Rattle.fixpoint.proofs.partners.partners_of.Given as goal

abbrev pub invariant-loop-k : goal.invariant-loop-k
invariant-loop-k l = NumbersBelow l.named l.o l.groups l.k l.found l.few.items l.many.items
