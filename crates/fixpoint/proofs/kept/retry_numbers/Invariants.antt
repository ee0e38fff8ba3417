use Rattle.std.proofs.Common.{map}
use Rattle.fixpoint.specs.Kept.{RetriesThose}
use Rattle.fixpoint.proofs.Finding.{FirstNumbers}
use Rattle.watches.specs.Watches.{Hold}
use Rattle.fixpoint.proofs.kept.retry_numbers.Given as goal

abbrev pub invariant-loop-k : goal.invariant-loop-k
invariant-loop-k g l = record {
  asked : RetriesThose (map (λ x. x.cond) l.list) l.s l.o.0 l.marks (FirstNumbers l.numbers l.k) l.fn.kept l.kept;
  hold : Hold (map (λ x. x.cond) l.list) l.s l.watches;
}
