use Rattle.std.proofs.Common.{refl}
use Rattle.std.specs.Prelude.{flat_map}
use Rattle.problem_text.specs.Canonical.{line_text, rule_spelling}
use Rattle.problem_text.proofs.PrintingLists.{joined}
use Rattle.problem_text.proofs.print.text.push_rules.Goals as goal

pub rules-preserved : goal.rules-preserved
rules-preserved c = joined (λ xs. flat_map (λ r. line_text (rule_spelling r)) xs) (λ r. line_text (rule_spelling r)) (λ x xs. refl) c.args.rules.now c.rules.rule-index c.rule-item.result _ _ _ c.rules-test.true c.rule-item.is (c.in_ok-push_rule.ensures {u = tt}) c.rules.invariant
