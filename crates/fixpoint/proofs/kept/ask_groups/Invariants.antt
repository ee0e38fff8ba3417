use Rattle.std.proofs.Common.{List, Bool, map}
use Rattle.fixpoint.specs.Kept.{RetriesThose}
use Rattle.fixpoint.proofs.Asked.{InBelow}
use Rattle.fixpoint.proofs.kept.ask_groups.Given as goal

abbrev pub invariant-loop-k : goal.invariant-loop-k
invariant-loop-k g l = (marks : List Bool) → RetriesThose (map (λ x. x.cond) l.list) l.s l.o.0 marks (InBelow l.groups l.k) l.fn.kept l.kept
