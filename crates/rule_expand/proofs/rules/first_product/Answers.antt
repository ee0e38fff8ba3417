use Rattle.std.proofs.Common.{◌∙◌, sym, arith}
use Rattle.rule_expand.specs.Rules.{plain_rule_data, multiplies_coordinates}
use Rattle.rule_expand.proofs.Wholes.{skip-item, take-item, none-left}
use Rattle.rule_expand.proofs.rules.first_product.Goals as goal

pub returns-then-is_product : goal.returns-then-is_product
returns-then-is_product c =
    sym (take-item plain_rule_data multiplies_coordinates c.args.rules.now c.loop-rule.rule-index c.rule-item.result c.loop-rule-test.true c.rule-item.is (sym c.is_product.ensures ∙ c.if-is_product.true) c.loop-rule.invariant)

pub loop-rule-preserved : goal.loop-rule-preserved
loop-rule-preserved c = skip-item plain_rule_data multiplies_coordinates c.args.rules.now c.loop-rule.rule-index c.rule-item.result c.loop-rule-test.true c.rule-item.is (sym c.is_product.ensures ∙ c.if-is_product.false) c.loop-rule.invariant

pub returns : goal.returns
returns c = sym (none-left plain_rule_data multiplies_coordinates c.args.rules.now c.loop-rule.rule-index (omega arith) c.loop-rule.invariant)
