use Rattle.std.proofs.Common.{ℕ, arith, below_more}
use Rattle.rule_expand.specs.Rules.{plain_rule_data}
use Rattle.geo_meaning.specs.Judged.{RuleHolds, rule_at}
use Rattle.geo_meaning.proofs.Rules.{as-expanded, as-written, rule-is, rules-all}
use Rattle.geo_meaning.proofs.judging.judge_rules.Goals as goal

pub rule_holds-requires-clause-wide : goal.rule_holds-requires-clause-wide
rule_holds-requires-clause-wide c =
    (rule-is c.args.problem.now c.args.layout.now c.args.rules.now c.loop-i.i c.index-rules-i.result c.is_formed.ensures.formed c.requires.rules c.requires.calm c.loop-i-test.true c.index-rules-i.is).wide

pub rule_holds-requires-clause-calm : goal.rule_holds-requires-clause-calm
rule_holds-requires-clause-calm c =
    (rule-is c.args.problem.now c.args.layout.now c.args.rules.now c.loop-i.i c.index-rules-i.result c.is_formed.ensures.formed c.requires.rules c.requires.calm c.loop-i-test.true c.index-rules-i.is).calm

pub rule_number-requires : goal.rule_number-requires
rule_number-requires c =
    let at = rule-is c.args.problem.now c.args.layout.now c.args.rules.now c.loop-i.i c.index-rules-i.result c.is_formed.ensures.formed c.requires.rules c.requires.calm c.loop-i-test.true c.index-rules-i.is in
    let inside = at.inside in
    let few = c.is_formed.ensures.rules in
    omega (arith, inside, few)

pub returns-then-not-rule_holds : goal.returns-then-not-rule_holds
returns-then-not-rule_holds c =
    let at = rule-is c.args.problem.now c.args.layout.now c.args.rules.now c.loop-i.i c.index-rules-i.result c.is_formed.ensures.formed c.requires.rules c.requires.calm c.loop-i-test.true c.index-rules-i.is in
    record {
      position = c.loop-i.i;
      number = c.rule_number.ensures;
      inside = at.inside;
      before = c.loop-i.invariant;
      broken = λ h. c.if-not-rule_holds.ensures.no (as-expanded c.args.problem.now c.args.layout.now (rule_at c.args.problem.now c.loop-i.i).demand (plain_rule_data c.index-rules-i.result).demand at.same h);
    }

pub loop-i-preserved : goal.loop-i-preserved
loop-i-preserved c =
    let at = rule-is c.args.problem.now c.args.layout.now c.args.rules.now c.loop-i.i c.index-rules-i.result c.is_formed.ensures.formed c.requires.rules c.requires.calm c.loop-i-test.true c.index-rules-i.is in
    let P : ℕ → Type 0 = λ k. RuleHolds c.args.problem.now c.args.layout.now k in
    below_more P c.loop-i.i c.loop-i.invariant (as-written c.args.problem.now c.args.layout.now (rule_at c.args.problem.now c.loop-i.i).demand (plain_rule_data c.index-rules-i.result).demand at.same c.if-not-rule_holds.ensures.yes)

pub returns : goal.returns
returns c = rules-all c.args.problem.now c.args.layout.now c.args.rules.now c.loop-i.i c.requires.rules (omega arith) c.loop-i.invariant
