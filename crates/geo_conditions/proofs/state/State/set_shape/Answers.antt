use Rattle.geo_conditions.specs.Reach.{Reach, with_place}
use Rattle.geo_conditions.proofs.Changed.{changed}
use Rattle.geo_conditions.proofs.state.State.set_shape.Goals as goal

pub returns : goal.returns
returns g c = changed (λ (r : Reach). with_place r c.args.place c.args.there) c.self.inside.objects.items c.args.self.now c.args.o.0 c.index_mut-held.result.now _ c.set_shape.new.self c.self.view_is c.requires.object c.index_mut-held.ensures.value c.set_shape.ensures
