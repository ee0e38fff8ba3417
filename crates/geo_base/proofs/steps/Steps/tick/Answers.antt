use Rattle.std.proofs.Common.{arith}
use Rattle.geo_base.proofs.steps.Steps.tick.Goals as goal

pub returns : goal.returns
returns g c = omega (arith, c.add.ensures.total, c.self.view_is)
