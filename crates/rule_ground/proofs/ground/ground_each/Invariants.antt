use Rattle.std.proofs.Common.{◌≡◌, drop, map}
use Rattle.rule_expand.specs.Rules.{plain_rule_data}
use Rattle.linear_conditions.specs.CondTree.{cond_view}
use Rattle.rule_ground.specs.Own.{own_conditions}
use Rattle.rule_ground.specs.Rules.{before, ground_rules, no_counts}
use Rattle.rule_ground.proofs.ground.ground_each.Given as goal

abbrev pub invariant-loop-rule : goal.invariant-loop-rule
invariant-loop-rule l = before (own_conditions l.problem) (ground_rules l.problem (map plain_rule_data l.rules) no_counts) ≡ before (map cond_view l.out.items) (ground_rules l.problem (map plain_rule_data (drop l.rule-index l.rules)) l.counter)
