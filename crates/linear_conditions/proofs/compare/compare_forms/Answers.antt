use Rattle.std.proofs.lemmas.Result.{err_from_is_err_and}
use Rattle.linear_conditions.specs.Leaves.{difference}
use Rattle.linear_conditions.specs.Views.{short_view}
use Rattle.linear_conditions.proofs.CompareSteps.{short-unfit}
use Rattle.linear_conditions.proofs.compare.compare_forms.Goals as goal

pub returns-in_err-f : goal.returns-in_err-f
returns-in_err-f c =
    let r = err_from_is_err_and c.from_residual.result c.from_residual.ensures.1 in
    rw (r.1, r.2) (short-unfit c.args.rel (difference (short_view c.args.left) (short_view c.args.right)) c.args.counter.now _ c.in_err-f.ensures.value)
