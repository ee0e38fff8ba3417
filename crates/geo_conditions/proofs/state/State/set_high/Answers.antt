use Rattle.std.proofs.Common.{length, ap, sym, ◌<◌, ◌∙◌, subst, to_z-of_z}
use Rattle.std.proofs.lemmas.List.{length-set}
use Rattle.geo_conditions.specs.Reach.{Reach, State, with_high}
use Rattle.geo_conditions.proofs.Changed.{changed, changed_state}
use Rattle.geo_conditions.proofs.state.State.set_high.Goals as goal

pub returns : goal.returns
returns g c = changed (λ (r : Reach). with_high r c.args.d c.args.v) c.self.inside.objects.items c.args.self.now c.args.o.0 c.index_mut-held.result.now _ c.set_high.new.self c.self.view_is c.requires.object c.index_mut-held.ensures.value
    (c.set_high.ensures ∙ ap (with_high c.index_mut-held.result.now c.args.d) (to_z-of_z c.ranges.v))

pub invariant_of-self : goal.invariant_of-self
invariant_of-self g c =
    let there = subst (λ (xs : State). c.args.o.0 < length xs) (sym c.self.view_is) c.requires.object in
    changed_state g.row.K c.self.inside.objects.items c.args.o.0 c.index_mut-held.result.now _ c.set_high.new.self c.self.invariant there c.index_mut-held.ensures.value
    (record { lo = ap (λ (r : Reach). length r.region.lo) c.set_high.ensures; hi = ap (λ (r : Reach). length r.region.hi) c.set_high.ensures ∙ length-set c.index_mut-held.result.now.region.hi c.args.d _; places = ap (λ (r : Reach). length r.places) c.set_high.ensures })
