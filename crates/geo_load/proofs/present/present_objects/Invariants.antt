use Rattle.std.proofs.Common.{◌≡◌}
use Rattle.std.specs.List.{filter, range_with_len}
use Rattle.geo_load.specs.Blocks.{is_present}
use Rattle.geo_load.proofs.present.present_objects.Given as goal

abbrev pub invariant-loop-o : goal.invariant-loop-o
invariant-loop-o l = l.objects.items ≡ filter (is_present l.problem l.layout) (range_with_len 0 l.o)
