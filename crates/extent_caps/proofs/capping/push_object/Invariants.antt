use Rattle.std.specs.List.{flat_map, range_with_len}
use Rattle.extent_caps.specs.Capped.{Adds}
use Rattle.extent_caps.specs.Extents.{caps_at}
use Rattle.extent_caps.proofs.capping.push_object.Given as goal

abbrev pub invariant-loop-before : goal.invariant-loop-before
invariant-loop-before l = Adds (flat_map (caps_at l.problem l.d l.e l.o.0) (range_with_len 1 l.before)) l.initial.conditions.items l.conditions.items
