use Rattle.std.proofs.Common.{ℕ, ◌<◌, get_or}
use Rattle.geo_conditions.specs.declared.cond.Cond.{Cond}
use Rattle.watches.specs.Rests.{NamesOnly}
use Rattle.watches.proofs.beside.+beside.Given as goal

-- the parts that were passed name the two objects only
abbrev pub invariant-loop-child : goal.invariant-loop-child
invariant-loop-child l = (i : ℕ) (d : Cond) → i < l.child-index → NamesOnly (get_or l.child-items i d) l.a.0 l.b.0
