use Rattle.std.proofs.Common.{List, map, subst}
use Rattle.geo_base.specs.Tuple.{Tuple}
use Rattle.problem_data.specs.Cells.{IsTuple}
use Rattle.problem_data.proofs.Accepted.{accepted_well_formed}
use Rattle.rule_expand.specs.declared.plain.PlainRule.{PlainRule}
use Rattle.rule_expand.specs.Rules.{plain_rule_data}
use Rattle.rule_values.specs.Calm.{AreCalm}
use Rattle.propagator_tests.proofs.tests.task.read_task.Goals as goal

pub returns-in-Ok : goal.returns-in-Ok
returns-in-Ok c = record {
  formed = accepted_well_formed c.args.text.now c.in_ok-problem.problem c.in_ok-problem.ensures.answer;
  expands = c.in_ok-rules.ensures.expanded.1;
  plain = c.in_ok-rules.ensures.expanded.0;
  asks = c.in_ok-rules.ensures.meaning;
  calm = subst (λ (rs : List PlainRule). (t : Tuple) → IsTuple c.in_ok-problem.problem t → AreCalm c.in_ok-problem.problem t (map plain_rule_data rs)) c.as_slice.ensures.value c.in-Ok.ensures.calm;
}
