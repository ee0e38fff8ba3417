use Rattle.std.proofs.Common.{map}
use Rattle.fixpoint.specs.Links.{HaveRows}
use Rattle.fixpoint.proofs.links.all_rows.Given as goal

abbrev pub invariant-loop-o : goal.invariant-loop-o
invariant-loop-o g l = HaveRows (map (λ x. x.cond) l.list) l.picks l.o l.rows.items
