use Rattle.std.proofs.Common.{◌≤ℤ◌, below_more, arith}
use Rattle.std.proofs.lemmas.Int.{ints}
use Rattle.geo_base.specs.Boxes.{coordinate}
use Rattle.geo_base.proofs.kbox.KBox.has.Goals as goal

pub loop-d-preserved : goal.loop-d-preserved
loop-d-preserved g c =
    let low : coordinate c.args.self.now.lo.coordinates c.loop-d.d ≤ℤ coordinate c.args.p.now.coordinates c.loop-d.d = omega (arith, ints) in
    let high : coordinate c.args.p.now.coordinates c.loop-d.d ≤ℤ coordinate c.args.self.now.hi.coordinates c.loop-d.d = omega (arith, ints) in
    below_more _ _ c.loop-d.invariant (low, high)
