use Rattle.std.proofs.Common.{◌≡◌, ◌++◌, map, drop}
use Rattle.json_sheets.specs.Sheet.{rule_sheet}
use Rattle.json_sheets.specs.SheetText.{rule_line, lines}
use Rattle.json_sheets.proofs.text.push_rules.Given as goal

abbrev pub invariant-rules : goal.invariant-rules
invariant-rules l = l.text.items ++ lines rule_line (map rule_sheet (drop l.rule-index l.rules)) ≡ l.fn.text.items ++ lines rule_line (map rule_sheet l.fn.rules)
