use Rattle.std.specs.List.{flat_map, range_with_len}
use Rattle.extent_caps.specs.Capped.{Adds}
use Rattle.extent_caps.specs.Extents.{caps_of}
use Rattle.extent_caps.proofs.capping.push_caps.Given as goal

abbrev pub invariant-loop-o : goal.invariant-loop-o
invariant-loop-o l = Adds (flat_map (caps_of l.problem l.d l.e) (range_with_len 0 l.o)) l.initial.conditions.items l.conditions.items
