use Rattle.std.proofs.Common.{◌≡◌, Bool, true, List, sym, subst, arith}
use Rattle.geo_state.proofs.Shapes.{place_few}
use Rattle.geo_conditions.specs.Reach.{place_in, reach}
use Rattle.geo_conditions.proofs.Sets.{only_out}
use Rattle.object_pruning.proofs.places.last_place.Goals as goal

pub returns-clause-last : goal.returns-clause-last
returns-clause-last g c = λ place t.
    let places = c.places-places.result in
    let there : place_in places place ≡ true = subst (λ (bs : List Bool). place_in bs place ≡ true) (sym c.places-places.ensures.value) t in
    c.loop-before.invariant.last place (omega (arith, place_few places place there, c.places-places.ensures.whole, c.loop-before-test.false)) there

pub returns-then-sole-ne0-clause-few : goal.returns-then-sole-ne0-clause-few
returns-then-sole-ne0-clause-few g c =
    let places = c.places-places.result in
    let sole = c.sole_place-sole.result in
    let only = only_out (reach c.args.s.now c.args.o.0).places sole (c.sole_place-sole.ensures.alone c.if-sole-ne0.true) in
    let there : place_in places sole ≡ true = subst (λ (bs : List Bool). place_in bs sole ≡ true) (sym c.places-places.ensures.value) only.0 in
    omega (arith, place_few places sole there, c.places-places.ensures.whole)

pub returns-then-sole-ne0-clause-last : goal.returns-then-sole-ne0-clause-last
returns-then-sole-ne0-clause-last g c = λ place t.
    let only = only_out (reach c.args.s.now c.args.o.0).places c.sole_place-sole.result (c.sole_place-sole.ensures.alone c.if-sole-ne0.true) in
    let same = only.1 place t in
    omega (arith, same)
