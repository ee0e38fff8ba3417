use Rattle.rule_expand.specs.PlainView.{plain_expr_view}
use Rattle.rule_values.specs.View.{env_view}
use Rattle.linear_conditions.specs.Views.{fixings_view}
use Rattle.linear_conditions.proofs.CompareSteps.{sides-certain}
use Rattle.linear_conditions.proofs.compare.certain_compare.Goals as goal

pub returns-in-Some : goal.returns-in-Some
returns-in-Some c =
    sides-certain c.args.problem.now (plain_expr_view c.args.a.now) (plain_expr_view c.args.b.now) (env_view c.args.env.now) (fixings_view c.args.fixings.now)
    c.in-Some.left c.in-Some.right c.args.rel c.sides_hold.result c.in-Some.ensures c.sides_hold.ensures
