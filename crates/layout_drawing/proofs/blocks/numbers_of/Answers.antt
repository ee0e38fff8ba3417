use Rattle.std.proofs.Common.{◌<ℤ◌, pos, arith}
use Rattle.std.proofs.lemmas.Int.{ints}
use Rattle.layout_drawing.proofs.blocks.numbers_of.Goals as goal

pub invariant_of-result : goal.invariant_of-result
invariant_of-result c =
    let size : pos 0 <ℤ c.args.size = c.requires in
    let low = c.ends-low.ensures.low in
    let high = c.ends-low.ensures.high in
    record { filled = omega (arith, ints); from = omega (arith, ints); to = omega (arith, ints) }

pub returns-clause-high : goal.returns-clause-high
returns-clause-high c =
    let high = c.ends-low.ensures.high in
    omega (arith, ints)
