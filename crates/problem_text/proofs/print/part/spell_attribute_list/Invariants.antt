use Rattle.std.proofs.Common.{◌≡◌, ◌++◌, map, drop}
use Rattle.rule_print.specs.Canonical.{written}
use Rattle.problem_text.specs.Canonical.{listed, attribute_spelling}
use Rattle.problem_data.specs.ProblemView.{attribute_data}
use Rattle.problem_text.proofs.PrintingLists.{left_listed}
use Rattle.problem_text.proofs.print.part.spell_attribute_list.Given as goal

abbrev pub invariant-attributes : goal.invariant-attributes
invariant-attributes l = map written l.into.items ++ left_listed l.is_first attribute_spelling (map attribute_data (drop l.attribute-index l.attributes)) ≡ map written l.fn.into.items ++ listed attribute_spelling (map attribute_data l.fn.attributes)
