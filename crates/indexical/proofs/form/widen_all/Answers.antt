use Rattle.std.proofs.Common.{arith}
use Rattle.geo_conditions.specs.Regions.{region_of}
use Rattle.indexical.proofs.Widened.{WidensFrom-more}
use Rattle.indexical.proofs.form.widen_all.Goals as goal

pub loop-j-preserved : goal.loop-j-preserved
loop-j-preserved g c =
    WidensFrom-more g.row.K c.args.way.now.lead c.args.f.now c.args.o.0 c.args.high (region_of c.args.region.now) c.loop-j.j (region_of c.args.b.now) (region_of c.loop-j.b) (region_of c.widen.new.b) c.args.purse.now c.loop-j.purse c.widen.new.purse
    (omega arith) c.requires.form.in_order c.loop-j.invariant (rw c.dimension.ensures.is at c.widen.ensures)
