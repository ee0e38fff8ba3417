use Rattle.std.proofs.Common.{sym, subst}
use Rattle.geo_json.specs.Ascii.{IsAsciiRule}
use Rattle.geo_json.proofs.texts.rule_values.Goals as goal

pub rule_to_json-requires : goal.rule_to_json-requires
rule_to_json-requires c = subst IsAsciiRule (sym c.rule-item.is) (c.requires c.loop-rule.rule-index c.rule-item.result c.loop-rule-test.true)
