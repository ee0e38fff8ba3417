use Rattle.std.proofs.Common.{◌-◌, length, map}
use Rattle.fixpoint.specs.Kept.{RetriesThose}
use Rattle.fixpoint.proofs.Finding.{MarkedBelow}
use Rattle.watches.specs.Watches.{Hold}
use Rattle.fixpoint.proofs.kept.ask_few.Given as goal

abbrev pub invariant-loop-u : goal.invariant-loop-u
invariant-loop-u g l = record {
  asked : RetriesThose (map (λ x. x.cond) l.list) l.s l.o.0 l.marks (MarkedBelow l.marks l.few l.u) l.fn.kept l.kept;
  hold : Hold (map (λ x. x.cond) l.list) l.s l.watches;
}

abbrev pub decreases-loop-u : goal.decreases-loop-u
decreases-loop-u g l = length l.few - l.u
