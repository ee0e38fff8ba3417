use Rattle.geo_conditions.proofs.Changed.{placed}
use Rattle.geo_conditions.proofs.state.Held.set_shape.Goals as goal

pub returns : goal.returns
returns g c = placed c.self.inside.places c.set.new.self _ c.args.self.now c.args.place c.args.there c.set.ensures c.self.view_is
