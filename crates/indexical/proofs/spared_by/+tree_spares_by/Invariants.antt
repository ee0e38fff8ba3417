use Rattle.std.specs.List.{All}
use Rattle.geo_conditions.specs.Conditions.{FitsIn}
use Rattle.indexical.proofs.spared_by.+tree_spares_by.Given as goal

abbrev pub invariant-loop-child : goal.invariant-loop-child
invariant-loop-child g l = All (λ x. FitsIn x l.s) l.child-items
