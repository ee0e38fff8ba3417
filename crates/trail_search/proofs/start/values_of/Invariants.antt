use Rattle.std.proofs.Common.{◌≡◌, map, take}
use Rattle.geo_conditions.specs.Walk.{values}
use Rattle.trail_search.specs.Variables.{variable_of}
use Rattle.trail_search.proofs.start.values_of.Given as goal

abbrev pub invariant-loop-x : goal.invariant-loop-x
invariant-loop-x g l = l.all.items ≡ values (map variable_of (take l.x-index l.variables)) l.t
