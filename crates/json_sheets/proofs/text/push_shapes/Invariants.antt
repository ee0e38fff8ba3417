use Rattle.std.proofs.Common.{◌≡◌, ◌++◌, drop}
use Rattle.problem_text.specs.Canonical.{shape_spelling}
use Rattle.json_sheets.specs.SheetText.{lines}
use Rattle.json_sheets.proofs.text.push_shapes.Given as goal

abbrev pub invariant-shapes : goal.invariant-shapes
invariant-shapes l = l.text.items ++ lines shape_spelling (drop l.shape-index l.shapes) ≡ l.fn.text.items ++ lines shape_spelling l.fn.shapes
