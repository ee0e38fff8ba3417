use Rattle.std.proofs.Common.{List, map, sym, subst}
use Rattle.rule_expand.specs.declared.plain.PlainRule.{PlainRule}
use Rattle.rule_expand.specs.Rules.{AllAskSame, plain_rule_data}
use Rattle.rule_values.specs.Calm.{AreCalm}
use Rattle.geo_meaning.proofs.Rules.{calm-rules}
use Rattle.geo_meaning.proofs.judging.judge.Goals as goal

pub judge_rules-requires-clause-rules : goal.judge_rules-requires-clause-rules
judge_rules-requires-clause-rules c =
    subst (λ (rs : List PlainRule). AllAskSame c.args.problem.now c.args.layout.now c.args.problem.now.rules (map plain_rule_data rs)) (sym c.as_slice.ensures.value)
    (c.in-Ok.ensures.meaning c.args.layout.now)

pub judge_rules-requires-clause-calm : goal.judge_rules-requires-clause-calm
judge_rules-requires-clause-calm c =
    subst (λ (rs : List PlainRule). AreCalm c.args.problem.now c.args.layout.now (map plain_rule_data rs)) (sym c.as_slice.ensures.value)
    (subst (AreCalm c.args.problem.now c.args.layout.now) (sym c.in-Ok.ensures.expanded.0)
    (calm-rules c.args.problem.now c.args.layout.now c.is_formed.ensures.formed c.requires.layout c.requires.expands c.requires.grounds))
