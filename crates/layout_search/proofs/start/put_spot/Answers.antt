use Rattle.std.proofs.Common.{◌≡◌, ℤ, set, subst}
use Rattle.geo_base.specs.Tuple.{spot}
use Rattle.geo_state.proofs.Numbers.{kept64}
use Rattle.trail_search.specs.Next.{HasFound}
use Rattle.layout_search.proofs.Spots.{put-place, put-value, all-put}
use Rattle.layout_search.proofs.start.put_spot.Goals as goal

pub loop-d-init : goal.loop-d-init
loop-d-init g c = put-place (HasFound c.args.search.now) g.row.K c.args.o.0 c.args.layout.now c.set_place.new.self c.requires.room.0 c.place.result c.requires.room.1 c.place.ensures c.set_place.ensures

pub loop-d-preserved : goal.loop-d-preserved
loop-d-preserved g c =
    put-value (HasFound c.args.search.now) g.row.K c.args.o.0 c.args.layout.now c.loop-d.layout c.requires.room.0 c.loop-d.d c.value.result c.set_value.new.self c.loop-d-test.true c.loop-d.invariant c.value.ensures
    (subst (λ (v : ℤ). c.set_value.new.self ≡ set c.loop-d.layout c.args.o.0 (record { place = (spot c.loop-d.layout c.args.o.0).place; origin = set (spot c.loop-d.layout c.args.o.0).origin c.loop-d.d v })) (kept64 c.value.result c.value.type_inv)
    c.set_value.ensures)

pub returns : goal.returns
returns g c = all-put (HasFound c.args.search.now) g.row.K c.args.o.0 c.args.layout.now c.loop-d.layout c.requires.room.0 c.loop-d.d c.loop-d-test.false c.loop-d.invariant
