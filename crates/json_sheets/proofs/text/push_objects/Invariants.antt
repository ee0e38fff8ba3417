use Rattle.std.proofs.Common.{◌≡◌, ◌++◌, map, drop}
use Rattle.json_sheets.specs.Sheet.{object_sheet}
use Rattle.json_sheets.specs.SheetText.{object_line, lines}
use Rattle.json_sheets.proofs.text.push_objects.Given as goal

abbrev pub invariant-objects : goal.invariant-objects
invariant-objects l = l.text.items ++ lines object_line (map object_sheet (drop l.object-index l.objects)) ≡ l.fn.text.items ++ lines object_line (map object_sheet l.fn.objects)
