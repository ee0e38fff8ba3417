use Rattle.std.proofs.Common.{◌≡◌, map, take}
use Rattle.serde_json.specs.View.{view}
use Rattle.problem_text.specs.Canonical.{name_at}
use Rattle.json_parts.specs.Form.{text_json}
use Rattle.geo_json.proofs.names.object_names.Given as goal

abbrev pub invariant-loop-position : goal.invariant-loop-position
invariant-loop-position l = map view l.names.items ≡ map text_json (map (name_at (map (λ o. o.name) l.objects)) (take l.position-index l.positions))
