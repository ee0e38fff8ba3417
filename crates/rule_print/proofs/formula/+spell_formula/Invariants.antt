use Rattle.std.proofs.Common.{◌≡◌, ◌++◌, map, drop}
use Rattle.rule_syntax.specs.Tree.{formulas}
use Rattle.rule_syntax.specs.View.{formula_view}
use Rattle.rule_print.specs.Canonical.{written}
use Rattle.rule_print.specs.Spelled.{operands_spelling}
use Rattle.rule_print.proofs.Printing.{left_operands}
use Rattle.rule_print.proofs.formula.+spell_formula.Given as goal

abbrev pub invariant-spell_operands-operands : goal.invariant-spell_operands-operands
invariant-spell_operands-operands l =
    map written l.into.items ++ left_operands l.mark l.rank l.is_first (formulas (map formula_view (drop l.operand-index l.operands))) ≡ map written l.fn.into.items ++ operands_spelling l.mark l.rank (formulas (map formula_view l.fn.operands))
