use Rattle.std.proofs.Common.{rules, ◌-ℤ◌, to_z, of_z, to_z-of_z, ap, ◌∙◌}
use Rattle.std.specs.Int.{w64, w128}
use Rattle.problem_data.specs.Truth.{compare}
use Rattle.linear_conditions.proofs.NumberSteps.{bounded-less, numbers-certain}
use Rattle.linear_conditions.proofs.compare.numbers_hold.Goals as goal

pub returns-then-is_within : goal.returns-then-is_within
returns-then-is_within c =
    numbers-certain c.args.x c.args.y c.args.rel _
    (bounded-less c.args.x c.args.y (to_z w128 (of_z w128 (to_z w128 (of_z w128 c.from.result) -ℤ to_z w128 (of_z w128 c.from-2.result)))) (search rules) _ _ c.is_within.ensures c.if-is_within.true)
    (c.holds.ensures
    ∙ ap (λ v. compare c.args.rel v (to_z w64 (of_z w64 c.args.y))) (to_z-of_z c.ranges.x)
    ∙ ap (λ v. compare c.args.rel c.args.x v) (to_z-of_z c.ranges.y))
