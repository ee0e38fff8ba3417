use Rattle.std.proofs.Common.{◌≡◌, ◌++◌, ◌∷◌, map, take}
use Rattle.geo_conditions.specs.Walk.{PlaceOf, coordinates_from}
use Rattle.trail_search.specs.Variables.{variable_of}
use Rattle.trail_search.proofs.variable.push_variables.Given as goal

abbrev pub invariant-loop-d : goal.invariant-loop-d
invariant-loop-d l = map variable_of l.all.items ≡ map variable_of l.fn.all.items ++ PlaceOf l.o.0 ∷ coordinates_from l.o.0 0 (take l.d l.down)
