use Rattle.std.proofs.Common.{◌≡◌, ℕ, ◌<◌, length, not, sym, subst}
use Rattle.geo_conditions.specs.Reach.{just, with_at}
use Rattle.geo_conditions.specs.Conditions.{possible}
use Rattle.indexical.proofs.Bounds.{bound_answer}
use Rattle.indexical.proofs.any.single_possible_at.Goals as goal

pub returns-in-Some : goal.returns-in-Some
returns-in-Some g c =
    let b = c.in-Some.bound.now in
    let cond = c.args.x.now.cond in
    let S = c.args.s.now in
    let p = c.args.c.now.coordinates in
    let of = c.in-Some.ensures.0 in
    let there : b.object.0 < length S = subst (λ (u : ℕ). u < length S) (sym of) c.requires.object in
    subst (λ (u : ℕ). not c.is_broken_at.result ≡ possible cond (with_at S u c.args.place (just p))) of
    (bound_answer b S c.args.place there cond c.in-Some.ensures.1 p c.is_broken_at.result c.is_broken_at.ensures)
