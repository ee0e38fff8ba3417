use Rattle.std.proofs.Common.{◌≡◌, ◌++◌, map, drop}
use Rattle.rule_print.specs.Canonical.{written}
use Rattle.problem_text.specs.Canonical.{listed, name_spelling}
use Rattle.problem_text.proofs.PrintingLists.{left_listed}
use Rattle.json_sheets.proofs.statements.spell_names.Given as goal

abbrev pub invariant-names : goal.invariant-names
invariant-names l = map written l.into.items ++ left_listed l.is_first name_spelling (drop l.name-index l.names) ≡ map written l.fn.into.items ++ listed name_spelling l.fn.names
