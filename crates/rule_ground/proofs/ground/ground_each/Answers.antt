use Rattle.std.proofs.Common.{map}
use Rattle.rule_expand.specs.Rules.{PlainRuleData, plain_rule_data}
use Rattle.rule_ground.specs.Faults.{HasRanges}
use Rattle.rule_ground.specs.Own.{own_conditions}
use Rattle.rule_ground.specs.Rules.{before, ground_rules, no_counts}
use Rattle.rule_ground.proofs.RuleSteps.{rules-step, rules-fault, rule-there}
use Rattle.rule_ground.proofs.ground.ground_each.Goals as goal

pub ground_body-requires-clause-ranges : goal.ground_body-requires-clause-ranges
ground_body-requires-clause-ranges c =
    rule-there (λ (r : PlainRuleData). HasRanges c.args.problem.now r.demand) c.args.rules.now c.loop-rule.rule-index c.rule-item.result c.loop-rule-test.true c.rule-item.is c.requires.ranges

pub returns-in-Err-ground_body : goal.returns-in-Err-ground_body
returns-in-Err-ground_body c =
    rules-fault c.args.problem.now (before (own_conditions c.args.problem.now) (ground_rules c.args.problem.now (map plain_rule_data c.args.rules.now) no_counts)) c.args.rules.now c.loop-rule.rule-index c.rule-item.result c.loop-rule.counter c.loop-rule.out.items c.in-Err-ground_body.fault c.fault_at.result
    c.loop-rule.invariant c.loop-rule-test.true c.rule-item.is c.in-Err-ground_body.ensures c.fault_at.ensures

pub loop-rule-preserved : goal.loop-rule-preserved
loop-rule-preserved c =
    rules-step c.args.problem.now (before (own_conditions c.args.problem.now) (ground_rules c.args.problem.now (map plain_rule_data c.args.rules.now) no_counts)) c.args.rules.now c.loop-rule.rule-index c.rule-item.result c.loop-rule.counter c.ground_body.new.counter c.loop-rule.out.items c.ground_body.new.out.items
    c.loop-rule.invariant c.loop-rule-test.true c.rule-item.is c.in_default-ground_body.ensures
