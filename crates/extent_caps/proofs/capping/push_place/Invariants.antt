use Rattle.std.proofs.Common.{map, take}
use Rattle.extent_caps.specs.Capped.{Adds}
use Rattle.extent_caps.specs.Extents.{cap}
use Rattle.extent_caps.proofs.capping.push_place.Given as goal

abbrev pub invariant-loop-b : goal.invariant-loop-b
invariant-loop-b l = Adds (map (cap l.problem l.d l.e l.at.object.0 l.at.place) (take l.b-index l.own)) l.initial.conditions.items l.conditions.items
