use Rattle.std.proofs.Common.{ap, ◌∙◌, arith, w64}
use Rattle.std.proofs.lemmas.Int.{ints, to_z-of_z}
use Rattle.geo_base.specs.Boxes.{coordinate}
use Rattle.geo_base.proofs.Ways.{sooner_up, sooner_down}
use Rattle.geo_base.proofs.way.Way.is_sooner_at.Goals as goal

pub returns-then-self : goal.returns-then-self
returns-then-self g c =
    sooner_up c.args.self.now.up _ _ _ _ c.if-self.true
    (to_z-of_z w64 c.get-a.result (record { sfits = c.get-a.type_inv }) ∙ c.get-a.ensures ∙ ap (coordinate c.args.p.now.coordinates) c.dimension-d.ensures.is)
    (to_z-of_z w64 c.get-b.result (record { sfits = c.get-b.type_inv }) ∙ c.get-b.ensures ∙ ap (coordinate c.args.q.now.coordinates) c.dimension-d.ensures.is)

pub returns-else-self : goal.returns-else-self
returns-else-self g c =
    sooner_down c.args.self.now.up _ _ _ _ c.if-self.false
    (to_z-of_z w64 c.get-a.result (record { sfits = c.get-a.type_inv }) ∙ c.get-a.ensures ∙ ap (coordinate c.args.p.now.coordinates) c.dimension-d.ensures.is)
    (to_z-of_z w64 c.get-b.result (record { sfits = c.get-b.type_inv }) ∙ c.get-b.ensures ∙ ap (coordinate c.args.q.now.coordinates) c.dimension-d.ensures.is)
