use Rattle.std.proofs.Common.{sym, ◌∙◌}
use Rattle.std.specs.Vec.Iter.{into_iter_items}
use Rattle.problem_data.specs.View.{rule_view}
use Rattle.problem_data.specs.Meaning.{rule_of}
use Rattle.problem_data.proofs.Taken.{fewer, none_left, made_more, made_all}
use Rattle.problem_data.proofs.InLists.{map_twice}
use Rattle.problem_text.proofs.build.rules.build_rules.Goals as goal

pub returns : goal.returns
returns c =
    made_all (λ r. rule_of (rule_view r)) c.loop-rule.made.items (into_iter_items c.loop-rule.rule-iterator) _ (none_left (into_iter_items c.loop-rule.rule-iterator) _ c.loop-rule.invariant.count c.in-None.ensures.steps.0) c.loop-rule.invariant.left
    ∙ sym (map_twice rule_of rule_view c.args.rules.items)

pub loop-rule-preserved : goal.loop-rule-preserved
loop-rule-preserved c = record {
  count = fewer (into_iter_items c.loop-rule.rule-iterator) (into_iter_items c.next.new.self) c.in-Some.rule _ _ c.in-Some.ensures.steps.0 c.in-Some.ensures.steps.1 c.loop-rule.invariant.count;
  left = made_more (λ r. rule_of (rule_view r)) c.loop-rule.made.items c.push.new.self.items c.in_ok-one.one c.in-Some.rule (into_iter_items c.loop-rule.rule-iterator) (into_iter_items c.next.new.self) _ c.in-Some.ensures.steps.0 c.in_ok-push.ensures.items c.in_ok-one.ensures c.loop-rule.invariant.left;
}
