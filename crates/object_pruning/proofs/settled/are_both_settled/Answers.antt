use Rattle.std.proofs.Common.{ℕ, Bool, true, false, List}
use Rattle.geo_conditions.specs.declared.cond.Cond.{Cond}
use Rattle.geo_conditions.specs.Reach.{State}
use Rattle.object_pruning.specs.Ends.{IsTightEnd}
use Rattle.object_pruning.proofs.settled.are_both_settled.Goals as goal

each_end : (cs : List Cond) (S : State) (o d : ℕ) → IsTightEnd cs S o d true → IsTightEnd cs S o d false → (up : Bool) → IsTightEnd cs S o d up
each_end cs S o d low high true = low
each_end cs S o d low high false = high

pub returns : goal.returns
returns g c = λ t cs a up. each_end cs c.args.s.now c.args.o.0 c.args.d (c.end_stands.ensures c.if-not-end_stands.false cs a) (c.end_stands-2.ensures t cs a) up
