use Rattle.std.proofs.Common.{◌≡◌, map, take}
use Rattle.serde_json.specs.View.{view}
use Rattle.json_sheets.specs.Sheet.{object_json}
use Rattle.geo_json.specs.SheetOf.{object_sheet_of}
use Rattle.geo_json.proofs.object.object_values.Given as goal

abbrev pub invariant-loop-object : goal.invariant-loop-object
invariant-loop-object l = map view l.values.items ≡ map object_json (map (object_sheet_of (map (λ s. s.name) l.shapes)) (take l.object-index l.objects))
