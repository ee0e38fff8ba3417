use Rattle.std.proofs.Common.{◌≡◌, ◌++◌, map, drop}
use Rattle.rule_print.specs.Canonical.{written}
use Rattle.problem_text.specs.Canonical.{listed, param_spelling}
use Rattle.problem_data.specs.ProblemView.{param_data}
use Rattle.problem_text.proofs.PrintingLists.{left_listed}
use Rattle.problem_text.proofs.print.part.spell_params.Given as goal

abbrev pub invariant-params : goal.invariant-params
invariant-params l = map written l.into.items ++ left_listed l.is_first param_spelling (map param_data (drop l.param-index l.params)) ≡ map written l.fn.into.items ++ listed param_spelling (map param_data l.fn.params)
