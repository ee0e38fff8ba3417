use Rattle.std.proofs.Common.{◌≡◌, map, take}
use Rattle.serde_json.specs.View.{view}
use Rattle.json_parts.specs.Form.{text_json}
use Rattle.geo_json.specs.SheetOf.{macro_text}
use Rattle.geo_json.proofs.texts.macro_values.Given as goal

abbrev pub invariant-loop-own : goal.invariant-loop-own
invariant-loop-own l = map view l.values.items ≡ map text_json (map macro_text (take l.own-index l.macros))
