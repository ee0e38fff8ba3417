use Rattle.std.proofs.Common.{refl, arith}
use Rattle.std.proofs.lemmas.Int.{ints}
use Rattle.geo_conditions.specs.Regions.{region_of}
use Rattle.indexical.proofs.Widened.{widens_high, widens_low}
use Rattle.indexical.proofs.form.widen_at.Goals as goal

pub returns-then-high : goal.returns-then-high
returns-then-high g c =
    widens_high c.args.d c.args.price c.args.price c.args.purse.now c.buy-units.new.purse c.buy-units.result c.distance.result
    refl c.buy-units.ensures.most c.buy-units.ensures.paid c.buy-units.ensures.empty c.args.high c.args.b.now.lo.coordinates c.args.b.now.hi.coordinates c.set.new.self.coordinates (region_of c.args.region.now) c.if-high.true
    (omega (arith, ints, c.distance.ensures, c.get-end.ensures, c.get-limit.ensures))
    (omega (arith, ints, c.set.ensures.same, c.up_by.ensures, c.get-end.ensures)) c.set.ensures.others

pub returns-else-high : goal.returns-else-high
returns-else-high g c =
    widens_low c.args.d c.args.price c.args.price c.args.purse.now c.buy-units-else-high.new.purse c.buy-units-else-high.result c.distance-else-high.result
    refl c.buy-units-else-high.ensures.most c.buy-units-else-high.ensures.paid c.buy-units-else-high.ensures.empty c.args.high c.args.b.now.lo.coordinates c.set-else-high.new.self.coordinates c.args.b.now.hi.coordinates (region_of c.args.region.now) c.if-high.false
    (omega (arith, ints, c.distance-else-high.ensures, c.get-end-else-high.ensures, c.get-limit-else-high.ensures))
    (omega (arith, ints, c.set-else-high.ensures.same, c.down_by.ensures, c.get-end-else-high.ensures)) c.set-else-high.ensures.others
