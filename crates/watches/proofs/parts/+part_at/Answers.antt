use Rattle.std.proofs.Common.{◌≤ℤ◌, pos, rules}
use Rattle.watches.proofs.Resting.{child_read, part_part}
use Rattle.watches.proofs.parts.+part_at.Goals as goal

pub returns-then-left-many : goal.returns-then-left-many
returns-then-left-many t c =
    let one : c.in-AtLeast.n ≤ℤ pos 1 = search rules in
    part_part c.part_at.result.now c.part-item.result c.args.c.now c.part_at.ensures
    (child_read c.args.c.now c.part-item.result c.in-AtLeast.n c.in-AtLeast.children c.as_slice-parts.result.now c.loop-part.part-index c.in-AtLeast.is c.as_slice-parts.ensures one c.loop-part-test.true c.part-item.is)
