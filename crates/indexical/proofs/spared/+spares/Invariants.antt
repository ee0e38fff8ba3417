use Rattle.std.proofs.Common.{◌≤◌}
use Rattle.std.specs.List.{All}
use Rattle.geo_conditions.specs.Conditions.{FitsIn}
use Rattle.indexical.proofs.Unnamed.{SpareAmong}
use Rattle.indexical.proofs.spared.+spares.Given as goal

abbrev pub invariant-enough_spare-loop-child : goal.invariant-enough_spare-loop-child
invariant-enough_spare-loop-child g l = record {
  among : SpareAmong l.child-items l.s l.o.0 l.place l.child-index l.sparing;
  few : l.sparing ≤ l.child-index;
  rest : l.others ≤ l.child-index;
  fits : All (λ x. FitsIn x l.s) l.child-items;
}
