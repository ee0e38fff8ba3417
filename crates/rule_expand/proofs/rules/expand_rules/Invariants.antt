use Rattle.std.proofs.Common.{◌≡◌, drop, map, take}
use Rattle.rule_expand.specs.Rules.{plain_rule_data, rule_expanded, first_place, is_large}
use Rattle.rule_expand.proofs.rules.expand_rules.Given as goal

abbrev pub invariant-loop-rule : goal.invariant-loop-rule
invariant-loop-rule l = record {
  made : map plain_rule_data l.made.items ≡ map (rule_expanded l.source.problem.now) (take l.rule-index l.rules);
  small : first_place is_large (drop l.rule-index (map (rule_expanded l.source.problem.now) l.rules)) ≡ first_place is_large (map (rule_expanded l.source.problem.now) l.rules);
}
