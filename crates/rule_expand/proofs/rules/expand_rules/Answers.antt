use Rattle.std.proofs.Common.{◌∙◌, ap, sym, arith, map}
use Rattle.std.specs.Prelude.{None, Some}
use Rattle.std.specs.Option.{option_map_or}
use Rattle.geo_tokens.specs.declared.fault.TextFault.TheVariants.{At}
use Rattle.geo_tokens.specs.declared.fault.FaultWord.TheVariants.{Expand}
use Rattle.rule_expand.specs.Rules.{rule_expanded, first_place, is_large}
use Rattle.rule_expand.proofs.Wholes.{skip-item, take-item, none-left, made-step, made-all}
use Rattle.rule_expand.proofs.rules.expand_rules.Goals as goal

pub loop-rule-preserved : goal.loop-rule-preserved
loop-rule-preserved c = record {
  made = made-step c.args.source.now.problem.now c.rules-rules.result.now c.loop-rule.rule-index c.rule-item.result c.loop-rule.made.items c.add_rule.new.rules.items c.in-Ok.one c.loop-rule-test.true c.rule-item.is c.loop-rule.invariant.made c.in-Ok.ensures.0 c.in_default.ensures;
  small = skip-item (rule_expanded c.args.source.now.problem.now) is_large c.rules-rules.result.now c.loop-rule.rule-index c.rule-item.result c.loop-rule-test.true c.rule-item.is c.in-Ok.ensures.1 c.loop-rule.invariant.small;
}

pub returns : goal.returns
returns c = (
  made-all c.args.source.now.problem.now c.rules-rules.result.now c.loop-rule.rule-index c.loop-rule.made.items (omega arith) c.loop-rule.invariant.made ∙ ap (map (rule_expanded c.args.source.now.problem.now)) c.rules-rules.ensures,
  ap (λ rs. first_place is_large (map (rule_expanded c.args.source.now.problem.now) rs)) (sym c.rules-rules.ensures) ∙ none-left (rule_expanded c.args.source.now.problem.now) is_large c.rules-rules.result.now c.loop-rule.rule-index (omega arith) c.loop-rule.invariant.small,
)

pub returns-in-Err-TooLarge : goal.returns-in-Err-TooLarge
returns-in-Err-TooLarge c =
    ap (λ o. option_map_or (λ place. Some (At place Expand)) o None)
    (ap (λ rs. first_place is_large (map (rule_expanded c.args.source.now.problem.now) rs)) (sym c.rules-rules.ensures)
    ∙ take-item (rule_expanded c.args.source.now.problem.now) is_large c.rules-rules.result.now c.loop-rule.rule-index c.rule-item.result c.loop-rule-test.true c.rule-item.is (rw c.in-Err-TooLarge.field-0-is at c.in-Err-TooLarge.ensures) c.loop-rule.invariant.small)
    ∙ ap (λ k. Some (At k Expand)) (sym c.place.ensures)
