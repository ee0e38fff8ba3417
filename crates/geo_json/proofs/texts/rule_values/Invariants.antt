use Rattle.std.proofs.Common.{◌≡◌, map, take}
use Rattle.serde_json.specs.View.{view}
use Rattle.json_sheets.specs.Sheet.{rule_json}
use Rattle.geo_json.specs.SheetOf.{rule_sheet_of}
use Rattle.geo_json.proofs.texts.rule_values.Given as goal

abbrev pub invariant-loop-rule : goal.invariant-loop-rule
invariant-loop-rule l = map view l.values.items ≡ map rule_json (map rule_sheet_of (take l.rule-index l.rules))
