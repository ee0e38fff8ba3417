use Rattle.std.proofs.Common.{sym, ◌∙◌}
use Rattle.std.proofs.lemmas.Result.{err_from_is_err_and}
use Rattle.linear_conditions.specs.Counts.{count_sums, one_visit, within_limits}
use Rattle.linear_conditions.specs.Views.{leaves_view}
use Rattle.linear_conditions.proofs.CompareSteps.{past-bounds, counted-done, counted-fault}
use Rattle.linear_conditions.proofs.CounterSteps.{past-fault}
use Rattle.linear_conditions.proofs.compare.counted.Goals as goal

pub returns-then-not-fit : goal.returns-then-not-fit
returns-then-not-fit c = past-bounds (leaves_view c.args.leaves.now) c.args.counter.now (sym c.fit.ensures ∙ c.if-not-fit.true)

pub fold_leaves-requires : goal.fold_leaves-requires
fold_leaves-requires c = c.requires (sym c.fit.ensures ∙ c.if-not-fit.false)

pub returns : goal.returns
returns c = counted-done (leaves_view c.args.leaves.now) c.args.counter.now c.visit_leaves.new.self _ (sym c.fit.ensures ∙ c.if-not-fit.false) c.in_ok-visit_leaves.ensures c.in_ok-fold_leaves.ensures

pub returns-in_err-visit_leaves : goal.returns-in_err-visit_leaves
returns-in_err-visit_leaves c =
    let r = err_from_is_err_and c.from_residual.result c.from_residual.ensures.1 in
    rw (r.1, r.2) (counted-fault (leaves_view c.args.leaves.now) c.args.counter.now _ (sym c.fit.ensures ∙ c.if-not-fit.false)
    (past-fault (within_limits (count_sums (leaves_view c.args.leaves.now).forms (one_visit c.args.counter.now))) _ c.in_err-visit_leaves.ensures))
