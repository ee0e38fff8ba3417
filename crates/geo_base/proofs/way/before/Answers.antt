use Rattle.std.proofs.Common.{arith}
use Rattle.geo_base.proofs.Ways.{before_here}
use Rattle.geo_base.proofs.way.before.Goals as goal

pub returns-then-not-same_at : goal.returns-then-not-same_at
returns-then-not-same_at g c =
    before_here g.row.K c.args.way.now.lead c.args.way.now.up c.args.p.now.coordinates c.args.q.now.coordinates c.loop-j.j (omega arith) c.loop-j.invariant c.same_at.result c.same_at.ensures c.if-not-same_at.true c.is_sooner_at.result c.is_sooner_at.ensures
