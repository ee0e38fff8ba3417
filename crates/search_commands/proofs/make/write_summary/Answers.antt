use Rattle.std.proofs.Common.{◌≡◌, ◌++◌, length, sym, ap}
use Rattle.std.proofs.lemmas.Result.{err_from_is_err_and}
use Rattle.geo_chan.proofs.Appending.{wrote_none, wrote_first, wrote_err, wrote_then}
use Rattle.search_commands.specs.Make.{counts}
use Rattle.search_commands.specs.Summed.{answer_lines}
use Rattle.search_commands.proofs.make.write_summary.Goals as goal

pub returns-in_err-write_counts : goal.returns-in_err-write_counts
returns-in_err-write_counts g c =
    let size : length c.objects-objects.result.now ≡ length c.args.problem.now.objects = ap length c.objects-objects.ensures in
    let p = err_from_is_err_and c.from_residual.result c.from_residual.ensures.1 in
    rw (p.1, p.2) (wrote_err _ _ _ _ _ _ _ _ _ _ _ _ (answer_lines c.args.outcome.now) _ (wrote_none _ _ _) c.in_err-write_counts.ensures (ap (λ k. counts k c.args.conditions ++ answer_lines c.args.outcome.now) (sym size)))

pub returns : goal.returns
returns g c =
    let size : length c.objects-objects.result.now ≡ length c.args.problem.now.objects = ap length c.objects-objects.ensures in
    wrote_then _ _ _ _ _ _ _ _ _ _ _ _ _ (wrote_first _ _ _ _ _ _ _ _ c.in_ok-write_counts.ensures) c.write_answer.ensures (ap (λ k. counts k c.args.conditions ++ answer_lines c.args.outcome.now) (sym size))
