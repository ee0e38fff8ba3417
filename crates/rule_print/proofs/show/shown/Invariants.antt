use Rattle.std.proofs.Common.{◌≡◌, ◌++◌, map, drop}
use Rattle.std.specs.Prelude.{option_map}
use Rattle.rule_print.specs.Canonical.{written, shown, shown_behind}
use Rattle.rule_print.proofs.show.shown.Given as goal

abbrev pub invariant-lexemes : goal.invariant-lexemes
invariant-lexemes l = l.text.items ++ shown_behind (option_map written l.before) (map written (drop l.lexeme-index l.lexemes)) ≡ shown (map written l.fn.lexemes)
