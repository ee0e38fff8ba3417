use Rattle.std.proofs.Common.{List, map, subst}
use Rattle.std.proofs.lemmas.Result.{err_from_is_err_and}
use Rattle.geo_base.specs.Tuple.{Tuple}
use Rattle.problem_data.specs.Cells.{IsTuple}
use Rattle.rule_expand.specs.declared.plain.PlainRule.{PlainRule}
use Rattle.rule_expand.specs.Rules.{plain_rule_data}
use Rattle.rule_values.specs.Calm.{AreCalm}
use Rattle.command_reply.proofs.Refusals.{refused_unread, refused_misnamed, refused_unexpanded, refused_ungrounded}
use Rattle.command_reply.proofs.accepted.read_accepted.Goals as goal

pub returns-in_err-problem : goal.returns-in_err-problem
returns-in_err-problem c = let p = err_from_is_err_and c.from_residual.result c.from_residual.ensures.1 in
    rw (p.1, p.2) (refused_unread c.args.text.now _ c.in_err-problem.ensures.answer)

pub returns-in_err-check_names : goal.returns-in_err-check_names
returns-in_err-check_names c = let p = err_from_is_err_and c.from_residual-in_err-check_names.result c.from_residual-in_err-check_names.ensures.1 in
    rw (p.1, p.2) (refused_misnamed (Unit {0}) c.args.text.now c.in_ok-problem.problem _ c.in_ok-problem.ensures.answer c.in_err-check_names.ensures.answers)

pub returns-in_err-rules : goal.returns-in_err-rules
returns-in_err-rules c = let p = err_from_is_err_and c.from_residual-in_err-rules.result c.from_residual-in_err-rules.ensures.1 in
    rw (p.1, p.2) (refused_unexpanded c.args.text.now c.in_ok-problem.problem _ c.in_ok-problem.ensures.answer c.in_ok-check_names.ensures.answers c.in_err-rules.ensures.expanded)

pub returns-in_err-conditions : goal.returns-in_err-conditions
returns-in_err-conditions c = let p = err_from_is_err_and c.from_residual-in_err-conditions.result c.from_residual-in_err-conditions.ensures.1 in
    rw (p.1, p.2)
    (refused_ungrounded c.args.text.now c.in_ok-problem.problem _ c.in_ok-problem.ensures.answer c.in_ok-check_names.ensures.answers c.in_ok-rules.ensures.expanded.1 c.in_err-conditions.ensures.conditions)

pub returns : goal.returns
returns c = record {
  accepted = record { spells = c.in_ok-problem.ensures.answer; names = c.in_ok-check_names.ensures.answers; expands = c.in_ok-rules.ensures.expanded.1; grounds = c.in_ok-conditions.ensures.conditions.1 };
  rules = c.in_ok-rules.ensures.expanded.0;
  are = c.in_ok-conditions.ensures.conditions.0;
  fit = c.in_ok-conditions.ensures.fit;
  meaning = c.in_ok-conditions.ensures.meaning;
  few = c.in_ok-conditions.ensures.few;
  asks = c.in_ok-rules.ensures.meaning;
  calm = subst (λ (rs : List PlainRule). (t : Tuple) → IsTuple c.in_ok-problem.problem t → AreCalm c.in_ok-problem.problem t (map plain_rule_data rs)) c.as_slice.ensures.value c.in_ok-conditions.ensures.calm;
}
