use Rattle.std.proofs.Common.{◌≡◌, ◌++◌, map, take}
use Rattle.serde_json.specs.View.{view}
use Rattle.problem_text.specs.Canonical.{name_at}
use Rattle.json_parts.specs.Form.{text_json}
use Rattle.geo_json.proofs.names.push_shape_names.Given as goal

abbrev pub invariant-loop-position : goal.invariant-loop-position
invariant-loop-position l = map view l.into.items ≡ map view l.fn.into.items ++ map text_json (map (name_at (map (λ s. s.name) l.shapes)) (take l.position-index l.positions))
