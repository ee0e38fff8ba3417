-- Members with marks between them that are still to be spelled: from the first one on, or behind it.
use Rattle.std.proofs.Common.{List, Bool, true, false}
use Rattle.geo_tokens.specs.declared.token.Keyword.{Keyword}
use Rattle.rule_syntax.specs.declared.tree.PlacedName.{PlacedName}
use Rattle.rule_print.specs.declared.rank.FormulaRank.{FormulaRank}
use Rattle.rule_syntax.specs.Tree.{ArgumentTrees, FormulaTrees}
use Rattle.rule_print.specs.Canonical.{Written}
use Rattle.rule_print.specs.Spelled.{arguments_spelling, more_arguments_spelling, operands_spelling, more_operands_spelling, names_spelling, more_names_spelling}

abbrev pub left_arguments : Bool → ArgumentTrees → List Written
left_arguments true es = arguments_spelling es
left_arguments false es = more_arguments_spelling es

abbrev pub left_names : Bool → List PlacedName → List Written
left_names true ns = names_spelling ns
left_names false ns = more_names_spelling ns

abbrev pub left_operands : Keyword → FormulaRank → Bool → FormulaTrees → List Written
left_operands mark r true fs = operands_spelling mark r fs
left_operands mark r false fs = more_operands_spelling mark r fs
