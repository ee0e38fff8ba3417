use Rattle.std.proofs.Common.{Bool, List, map}
use Rattle.fixpoint.specs.Kept.{RetriesThose}
use Rattle.fixpoint.proofs.Asked.{BesideBelow}
use Rattle.fixpoint.proofs.kept.ask_all.Given as goal

abbrev pub invariant-loop-u : goal.invariant-loop-u
invariant-loop-u g l = (marks : List Bool) → RetriesThose (map (λ x. x.cond) l.list) l.s l.o.0 marks (BesideBelow l.pairs.beside.items l.u) l.fn.kept l.kept
