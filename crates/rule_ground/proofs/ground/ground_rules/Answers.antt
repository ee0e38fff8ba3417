use Rattle.std.proofs.Common.{map, sym, subst}
use Rattle.std.specs.Prelude.{All}
use Rattle.rule_expand.specs.Rules.{PlainRuleData, plain_rule_data}
use Rattle.rule_values.specs.Calm.{AreCalm}
use Rattle.rule_ground.specs.Faults.{HasRanges}
use Rattle.rule_ground.proofs.CalmRules.{all-calm}
use Rattle.rule_ground.proofs.Few.{grounded-few}
use Rattle.rule_ground.proofs.Fit.{grounded-fit}
use Rattle.rule_ground.proofs.Grounded.{of-conditions, of-problem, told}
use Rattle.rule_ground.proofs.Meaning.{all-ranges, ground-meant}
use Rattle.rule_ground.proofs.Said.{said-small, said-rules}
use Rattle.rule_ground.proofs.ground.ground_rules.Goals as goal

pub ground_each-requires-clause-shapes : goal.ground_each-requires-clause-shapes
ground_each-requires-clause-shapes c = said-small c.args.problem.now c.is_said.ensures.said

pub ground_each-requires-clause-ranges : goal.ground_each-requires-clause-ranges
ground_each-requires-clause-ranges c =
    subst (All (λ (r : PlainRuleData). HasRanges c.args.problem.now r.demand)) (sym c.requires.rules) (all-ranges c.args.problem.now c.is_said.ensures.formed)

pub returns-clause-conditions : goal.returns-clause-conditions
returns-clause-conditions c = told c.args.problem.now _ (of-problem c.args.problem.now (map plain_rule_data c.args.rules.now) _ c.requires.rules c.ground_each.ensures)

pub returns-clause-meaning : goal.returns-clause-meaning
returns-clause-meaning c =
    of-conditions c.args.problem.now _ _ (of-problem c.args.problem.now (map plain_rule_data c.args.rules.now) _ c.requires.rules c.ground_each.ensures)
    (λ v h. ground-meant c.args.problem.now v.items c.is_said.ensures.formed c.requires.expands h)

pub returns-clause-fit : goal.returns-clause-fit
returns-clause-fit c =
    of-conditions c.args.problem.now _ _ (of-problem c.args.problem.now (map plain_rule_data c.args.rules.now) _ c.requires.rules c.ground_each.ensures)
    (λ v h. grounded-fit c.args.problem.now c.is_said.ensures.formed v.items h)

pub returns-clause-few : goal.returns-clause-few
returns-clause-few c =
    of-conditions c.args.problem.now _ _ (of-problem c.args.problem.now (map plain_rule_data c.args.rules.now) _ c.requires.rules c.ground_each.ensures)
    (λ v h. grounded-few c.args.problem.now v.items c.is_said.ensures.formed (said-rules c.args.problem.now c.is_said.ensures.said) h)

pub returns-clause-calm : goal.returns-clause-calm
returns-clause-calm c =
    of-conditions c.args.problem.now _ _ (of-problem c.args.problem.now (map plain_rule_data c.args.rules.now) _ c.requires.rules c.ground_each.ensures)
    (λ v h t is. subst (λ rs. AreCalm c.args.problem.now t rs) (sym c.requires.rules) (all-calm c.args.problem.now t _ c.is_said.ensures.formed is c.requires.expands h))
