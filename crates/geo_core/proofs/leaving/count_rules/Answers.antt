use Rattle.std.proofs.Common.{◌≤◌, List, length, sym, subst, arith}
use Rattle.problem_data.specs.Problem.{RuleData}
use Rattle.rule_ground.proofs.Said.{said-rules}
use Rattle.geo_core.proofs.leaving.count_rules.Goals as goal

pub returns-clause-few : goal.returns-clause-few
returns-clause-few c = subst (λ (rs : List RuleData). length rs ≤ 100) (sym c.rules.ensures) (said-rules c.args.problem.now c.is_said.ensures.said)

pub overflow_cast-result : goal.overflow_cast-result
overflow_cast-result c =
    let few : length c.rules.result.now ≤ 100 = subst (λ (rs : List RuleData). length rs ≤ 100) (sym c.rules.ensures) (said-rules c.args.problem.now c.is_said.ensures.said) in
    omega (arith, few)
