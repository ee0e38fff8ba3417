use Rattle.std.proofs.Common.{◌≡◌, map, take}
use Rattle.serde_json.specs.View.{view}
use Rattle.geo_base.specs.Tuple.{spot}
use Rattle.json_parts.specs.Form.{int_json}
use Rattle.geo_json.proofs.layout.coordinates.Given as goal

abbrev pub invariant-loop-d : goal.invariant-loop-d
invariant-loop-d l = map view l.values.items ≡ map int_json (take l.d (spot l.layout l.o.0).origin)
