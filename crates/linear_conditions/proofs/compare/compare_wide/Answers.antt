use Rattle.std.proofs.lemmas.Result.{err_from_is_err_and}
use Rattle.rule_expand.specs.PlainView.{plain_expr_view}
use Rattle.rule_values.specs.View.{env_view}
use Rattle.linear_conditions.specs.Forms.{sum_of_expr, fits_expr}
use Rattle.linear_conditions.specs.Leaves.{difference}
use Rattle.linear_conditions.specs.Views.{fixings_view}
use Rattle.linear_conditions.proofs.CompareSteps.{compared-misfit}
use Rattle.linear_conditions.proofs.compare.compare_wide.Goals as goal

pub returns-in_err-f : goal.returns-in_err-f
returns-in_err-f c =
    let r = err_from_is_err_and c.from_residual.result c.from_residual.ensures.1 in
    let p = c.args.problem.now in
    let env = env_view c.args.env.now in
    let fix = fixings_view c.args.fixings.now in
    let a = plain_expr_view c.args.a.now in
    let b = plain_expr_view c.args.b.now in
    rw (r.1, r.2) (compared-misfit c.args.rel (difference (sum_of_expr p a env fix) (sum_of_expr p b env fix)) (fits_expr p a env fix) (fits_expr p b env fix) c.args.counter.now _ c.in_err-f.ensures.value)
