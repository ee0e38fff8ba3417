use Rattle.std.proofs.Common.{refl, map}
use Rattle.problem_text.specs.Canonical.{line_text}
use Rattle.problem_text.proofs.PrintingLists.{joined}
use Rattle.json_sheets.specs.Sheet.{rule_sheet}
use Rattle.json_sheets.specs.SheetText.{rule_line, lines}
use Rattle.json_sheets.proofs.text.push_rules.Goals as goal

pub rules-preserved : goal.rules-preserved
rules-preserved c =
    joined (λ xs. lines rule_line (map rule_sheet xs)) (λ x. line_text (rule_line (rule_sheet x))) (λ x xs. refl) c.args.rules.now c.rules.rule-index c.rule-item.result _ _ _ c.rules-test.true c.rule-item.is (c.in_ok-push_rule.ensures {u = tt}) c.rules.invariant
