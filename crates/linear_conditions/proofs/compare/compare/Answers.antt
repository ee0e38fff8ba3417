use Rattle.std.proofs.Common.{◌≡◌, subst}
use Rattle.std.specs.Prelude.{MatchResult}
use Rattle.rule_expand.specs.PlainView.{plain_expr_view}
use Rattle.rule_values.specs.View.{env_view}
use Rattle.linear_conditions.specs.CondTree.{CondTree, cond_view}
use Rattle.linear_conditions.specs.Counts.{Done, Outcome}
use Rattle.linear_conditions.specs.Faults.{IsFault}
use Rattle.linear_conditions.specs.Views.{fixings_view}
use Rattle.linear_conditions.proofs.CompareSteps.{sides-compared}
use Rattle.linear_conditions.proofs.compare.compare.Goals as goal

pub returns-in-Some : goal.returns-in-Some
returns-in-Some c =
    subst (λ (o : Outcome CondTree). MatchResult c.compare_sides.result (λ x. o ≡ Done (cond_view x) c.compare_sides.new.counter) (λ e. IsFault CondTree o e))
    (sides-compared c.args.problem.now (plain_expr_view c.args.a.now) (plain_expr_view c.args.b.now) (env_view c.args.env.now) (fixings_view c.args.fixings.now)
    c.in-Some.left c.in-Some.right c.args.rel c.args.counter.now c.in-Some.ensures)
    c.compare_sides.ensures
