use Rattle.std.proofs.Common.{◌≡◌, ◌++◌, drop}
use Rattle.std.specs.Prelude.{flat_map}
use Rattle.problem_text.specs.Canonical.{line_text, rule_spelling}
use Rattle.problem_text.proofs.print.text.push_rules.Given as goal

abbrev pub invariant-rules : goal.invariant-rules
invariant-rules l = l.text.items ++ flat_map (λ r. line_text (rule_spelling r)) (drop l.rule-index l.rules) ≡ l.fn.text.items ++ flat_map (λ r. line_text (rule_spelling r)) l.fn.rules
