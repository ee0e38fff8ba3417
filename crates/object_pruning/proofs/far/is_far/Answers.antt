use Rattle.std.proofs.Common.{arith}
use Rattle.std.proofs.lemmas.Int.{ints}
use Rattle.geo_base.specs.Boxes.{coordinate}
use Rattle.object_pruning.proofs.far.is_far.Goals as goal

pub returns-then-is_apart : goal.returns-then-is_apart
returns-then-is_apart g c = λ test q has near.
    let d = c.loop-d.d in
    let m = near d c.loop-d-test.true in
    let h = has d c.loop-d-test.true in
    let lo = c.interval-held.ensures.lo in
    let hi = c.interval-held.ensures.hi in
    c.is_apart.ensures c.if-is_apart.true (coordinate q d) (omega (arith, ints, h.0, c.get.ensures)) (omega (arith, ints, h.1, c.get-in-loop-d.ensures)) (omega (arith, ints, m.0, hi, c.get-ahead.ensures)) (omega (arith, ints, m.1, lo, c.get-behind.ensures))
