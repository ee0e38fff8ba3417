use Rattle.std.proofs.Common.{◌≡◌, ◌<◌, pos, arith}
use Rattle.std.proofs.lemmas.Int.{ints}
use Rattle.indexical.proofs.TwoLengths.{found_says}
use Rattle.indexical.proofs.two_boxes.two_boxes.Goals as goal

pub returns-then-n-eq1 : goal.returns-then-n-eq1
returns-then-n-eq1 g c =
    let some : 0 < g.row.K = omega (arith, c.if-this-eq0.false) in
    let one : c.in-AtLeast.n ≡ pos 1 = omega (arith, ints, c.if-n-eq1.true) in
    found_says some c.args.c.now c.in-AtLeast.n c.in-AtLeast.parts c.as_slice.result.now c.boxes_of_parts.result c.in-AtLeast.is one c.as_slice.ensures c.boxes_of_parts.ensures
