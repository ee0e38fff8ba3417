use Rattle.std.proofs.Common.{◌≡◌, map, take}
use Rattle.geo_conditions.specs.Order.{numbers_of}
use Rattle.geo_conditions.specs.Walk.{variables}
use Rattle.trail_search.specs.Variables.{variable_of}
use Rattle.trail_search.proofs.variable.list_variables.Given as goal

abbrev pub invariant-loop-o : goal.invariant-loop-o
invariant-loop-o l = map variable_of l.all.items ≡ variables (take l.o-index (numbers_of l.o-items)) l.order.down
