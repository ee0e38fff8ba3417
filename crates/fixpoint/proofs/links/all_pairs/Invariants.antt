use Rattle.fixpoint.specs.Links.{SortAllRows}
use Rattle.fixpoint.proofs.links.all_pairs.Given as goal

abbrev pub invariant-loop-o : goal.invariant-loop-o
invariant-loop-o l = SortAllRows l.named l.rows l.o l.pairs.items
