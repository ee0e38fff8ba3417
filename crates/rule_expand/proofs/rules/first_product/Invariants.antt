use Rattle.std.proofs.Common.{◌≡◌, drop, map}
use Rattle.rule_expand.specs.Rules.{plain_rule_data, first_place, multiplies_coordinates}
use Rattle.rule_expand.proofs.rules.first_product.Given as goal

abbrev pub invariant-loop-rule : goal.invariant-loop-rule
invariant-loop-rule l = first_place multiplies_coordinates (drop l.rule-index (map plain_rule_data l.rules)) ≡ first_place multiplies_coordinates (map plain_rule_data l.rules)
