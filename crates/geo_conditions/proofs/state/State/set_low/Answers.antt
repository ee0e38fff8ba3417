use Rattle.std.proofs.Common.{length, ap, sym, ◌<◌, ◌∙◌, subst, to_z-of_z}
use Rattle.std.proofs.lemmas.List.{length-set}
use Rattle.geo_conditions.specs.Reach.{Reach, State, with_low}
use Rattle.geo_conditions.proofs.Changed.{changed, changed_state}
use Rattle.geo_conditions.proofs.state.State.set_low.Goals as goal

pub returns : goal.returns
returns g c = changed (λ (r : Reach). with_low r c.args.d c.args.v) c.self.inside.objects.items c.args.self.now c.args.o.0 c.index_mut-held.result.now _ c.set_low.new.self c.self.view_is c.requires.object c.index_mut-held.ensures.value
    (c.set_low.ensures ∙ ap (with_low c.index_mut-held.result.now c.args.d) (to_z-of_z c.ranges.v))

pub invariant_of-self : goal.invariant_of-self
invariant_of-self g c =
    let there = subst (λ (xs : State). c.args.o.0 < length xs) (sym c.self.view_is) c.requires.object in
    changed_state g.row.K c.self.inside.objects.items c.args.o.0 c.index_mut-held.result.now _ c.set_low.new.self c.self.invariant there c.index_mut-held.ensures.value
    (record { lo = ap (λ (r : Reach). length r.region.lo) c.set_low.ensures ∙ length-set c.index_mut-held.result.now.region.lo c.args.d _; hi = ap (λ (r : Reach). length r.region.hi) c.set_low.ensures; places = ap (λ (r : Reach). length r.places) c.set_low.ensures })
