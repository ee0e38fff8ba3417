use Rattle.rule_expand.specs.PlainView.{plain_expr_view}
use Rattle.rule_values.specs.View.{env_view}
use Rattle.linear_conditions.specs.Views.{fixings_view, wide_view}
use Rattle.linear_conditions.proofs.CompareSteps.{sum-ordered, difference-ordered}
use Rattle.linear_conditions.proofs.compare.difference.Goals as goal

pub subtracted-requires-clause-ordered : goal.subtracted-requires-clause-ordered
subtracted-requires-clause-ordered c =
    sum-ordered c.args.problem.now (plain_expr_view c.args.b.now) (env_view c.args.env.now) (fixings_view c.args.fixings.now) (wide_view c.in_ok-right.right) c.in_ok-right.ensures.0

pub returns-clause-ordered : goal.returns-clause-ordered
returns-clause-ordered c =
    difference-ordered c.subtracted.result (wide_view c.in_ok-left.left) (wide_view c.in_ok-right.right) _
    (sum-ordered c.args.problem.now (plain_expr_view c.args.a.now) (env_view c.args.env.now) (fixings_view c.args.fixings.now) (wide_view c.in_ok-left.left) c.in_ok-left.ensures.0) c.subtracted.ensures
