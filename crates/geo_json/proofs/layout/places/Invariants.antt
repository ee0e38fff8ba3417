use Rattle.std.proofs.Common.{◌≡◌, map, take, length}
use Rattle.std.specs.List.{range_with_len}
use Rattle.serde_json.specs.View.{view}
use Rattle.geo_json.specs.LayoutJson.{place_json}
use Rattle.geo_json.proofs.layout.places.Given as goal

abbrev pub invariant-loop-o : goal.invariant-loop-o
invariant-loop-o l = map view l.values.items ≡ map (place_json l.problem l.layout) (take l.o (range_with_len 0 (length l.layout)))
