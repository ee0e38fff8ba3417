use Rattle.std.proofs.Common.{◌≡◌, ◌++◌, map, drop}
use Rattle.rule_print.specs.Canonical.{written}
use Rattle.rule_print.specs.Spelled.{names_spelling}
use Rattle.rule_print.proofs.Printing.{left_names}
use Rattle.rule_print.proofs.formula.spell_names.Given as goal

abbrev pub invariant-names : goal.invariant-names
invariant-names l = map written l.into.items ++ left_names l.is_first (drop l.name-index l.names) ≡ map written l.fn.into.items ++ names_spelling l.fn.names
