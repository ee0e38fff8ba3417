use Rattle.fixpoint.specs.Pairs.{BelongsTo, Puts}
use Rattle.fixpoint.proofs.Paired.{IsOfRow}
use Rattle.fixpoint.proofs.pairs.put_row.Given as goal

abbrev pub invariant-loop-k : goal.invariant-loop-k
invariant-loop-k l = Puts (BelongsTo l.named l.o) (IsOfRow l.row l.groups l.k) l.fn.beside l.fn.others.items l.beside l.others.items
