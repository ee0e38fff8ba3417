use Rattle.std.proofs.Common.{◌≡◌, ◌≢◌, ℕ, length, sym, ◌∙◌, subst, true}
use Rattle.std.proofs.lemmas.Bool.{eqb-true}
use Rattle.geo_conditions.specs.Reach.{nowhere, reach, is_only}
use Rattle.fixpoint.proofs.SameReach.{same_alone}
use Rattle.fixpoint.proofs.differences.has_same_place_alone.Goals as goal

pub returns : goal.returns
returns g c = λ t.
    let o = c.args.o.0 in
    let first = (reach c.args.a.now o).places in
    let second = (reach c.args.b.now o).places in
    let place = c.sole_place-place.result in
    let same : c.sole_place.result ≡ place = eqb-true c.sole_place.result place t in
    let long : length first ≡ length second = c.objects-first.ensures.shape.places o nowhere c.requires.first ∙ sym (c.objects-second.ensures.shape.places o nowhere c.requires.second) in
    let some : c.sole_place.result ≢ 0 = λ e. c.if-place-eq0.false (sym same ∙ e) in
    let there : is_only second place ≡ true = subst (λ (p : ℕ). is_only second p ≡ true) same (c.sole_place.ensures.alone some) in
    same_alone first second place long (c.sole_place-place.ensures.alone c.if-place-eq0.false) there
