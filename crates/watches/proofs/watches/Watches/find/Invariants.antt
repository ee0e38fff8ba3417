use Rattle.std.proofs.Common.{map}
use Rattle.watches.specs.Watches.{Hold}
use Rattle.watches.proofs.watches.Watches.find.Given as goal

abbrev pub invariant-loop : goal.invariant-loop
invariant-loop g l = Hold (map (λ x. x.cond) l.list) l.s l.self
