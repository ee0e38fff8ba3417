use Rattle.std.proofs.Common.{rules, ◌-ℤ◌, to_z, of_z, to_z-of_z, ap, ◌∙◌}
use Rattle.std.specs.Int.{w64, w128}
use Rattle.std.proofs.lemmas.Result.{err_from_is_err_and}
use Rattle.problem_data.specs.Truth.{compare}
use Rattle.linear_conditions.specs.Folding.{certain}
use Rattle.linear_conditions.proofs.NumberSteps.{bounded-less, numbers-past-bounds, numbers-done, numbers-past}
use Rattle.linear_conditions.proofs.compare.compare_numbers.Goals as goal

pub returns-then-not-is_within : goal.returns-then-not-is_within
returns-then-not-is_within c =
    numbers-past-bounds c.args.x c.args.y c.args.rel c.args.counter.now
    (bounded-less c.args.x c.args.y (to_z w128 (of_z w128 (to_z w128 (of_z w128 c.from.result) -ℤ to_z w128 (of_z w128 c.from-2.result)))) (search rules) _ _ c.is_within.ensures c.if-not-is_within.true)

pub returns-in_err-visit : goal.returns-in_err-visit
returns-in_err-visit c =
    let r = err_from_is_err_and c.from_residual.result c.from_residual.ensures.1 in
    rw (r.1, r.2) (numbers-past c.args.x c.args.y c.args.rel c.args.counter.now _
    (bounded-less c.args.x c.args.y (to_z w128 (of_z w128 (to_z w128 (of_z w128 c.from.result) -ℤ to_z w128 (of_z w128 c.from-2.result)))) (search rules) _ _ c.is_within.ensures c.if-not-is_within.false) c.in_err-visit.ensures)

pub returns : goal.returns
returns c =
    numbers-done c.args.x c.args.y c.args.rel c.args.counter.now c.visit.new.self _
    (bounded-less c.args.x c.args.y (to_z w128 (of_z w128 (to_z w128 (of_z w128 c.from.result) -ℤ to_z w128 (of_z w128 c.from-2.result)))) (search rules) _ _ c.is_within.ensures c.if-not-is_within.false) c.in_ok-visit.ensures
    (c.certain.ensures ∙ ap certain (c.holds.ensures
    ∙ ap (λ v. compare c.args.rel v (to_z w64 (of_z w64 c.args.y))) (to_z-of_z c.ranges.x)
    ∙ ap (λ v. compare c.args.rel c.args.x v) (to_z-of_z c.ranges.y)))
