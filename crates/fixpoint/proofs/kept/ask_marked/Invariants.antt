use Rattle.std.proofs.Common.{◌-◌, length, map}
use Rattle.fixpoint.specs.Kept.{RetriesThose}
use Rattle.fixpoint.proofs.Asked.{BesideBelow}
use Rattle.fixpoint.proofs.kept.ask_marked.Given as goal

abbrev pub invariant-loop-u : goal.invariant-loop-u
invariant-loop-u g l = RetriesThose (map (λ x. x.cond) l.list) l.s l.o.0 l.marks (BesideBelow l.pairs.beside.items l.u) l.fn.kept l.kept

abbrev pub decreases-loop-u : goal.decreases-loop-u
decreases-loop-u g l = length l.pairs.beside.items - l.u
