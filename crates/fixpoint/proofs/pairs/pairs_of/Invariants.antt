use Rattle.fixpoint.specs.Pairs.{BelongsTo}
use Rattle.fixpoint.proofs.Paired.{SortedBelow}
use Rattle.fixpoint.proofs.pairs.pairs_of.Given as goal

abbrev pub invariant-loop-r : goal.invariant-loop-r
invariant-loop-r l = SortedBelow (BelongsTo l.named l.o) l.rows l.objects l.r l.beside.items l.others.items
