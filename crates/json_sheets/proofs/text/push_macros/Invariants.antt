use Rattle.std.proofs.Common.{◌≡◌, ◌++◌, drop}
use Rattle.json_sheets.specs.SheetText.{macro_line, lines}
use Rattle.json_sheets.proofs.text.push_macros.Given as goal

abbrev pub invariant-macros : goal.invariant-macros
invariant-macros l = l.text.items ++ lines macro_line (drop l.own-index l.macros) ≡ l.fn.text.items ++ lines macro_line l.fn.macros
