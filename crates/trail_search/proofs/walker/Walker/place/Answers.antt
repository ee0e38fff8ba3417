use Rattle.std.proofs.Common.{◌<◌, length, ap, sym, ◌∙◌, subst, refl, arith, ℤ, pos, ◌≤ℤ◌}
use Rattle.trail_search.specs.Walker.{Position}
use Rattle.trail_search.proofs.Finding.{place_values, place_kept}
use Rattle.trail_search.proofs.Walking.{number_is}
use Rattle.trail_search.proofs.walker.Walker.place.Goals as goal

pub place_of-requires : goal.place_of-requires
place_of-requires g c =
    let p = c.args.self.now in
    let i = c.number_of-i.result in
    let y = c.index.result.now in
    let v = ap (λ (q : Position). q.values) c.self.view_is in
    let b : i < length c.self.inside.values.items = omega (arith, ap length v, c.requires.well.values, c.number_of-i.ensures.within) in
    let e = number_is c.self.inside.values.items p.values i i y v c.index.ensures refl b in
    let s = place_values p.variables p.values c.args.o.0 i y c.requires.well.numbers c.number_of-i.ensures.within c.number_of-i.ensures.at e in
    let k = sym (place_kept y s) in
    record { from = subst (λ (z : ℤ). pos 0 ≤ℤ z) k s.0; to = subst (λ (z : ℤ). z ≤ℤ pos 16) k s.1 }

pub returns : goal.returns
returns g c =
    let p = c.args.self.now in
    let i = c.number_of-i.result in
    let y = c.index.result.now in
    let v = ap (λ (q : Position). q.values) c.self.view_is in
    let b : i < length c.self.inside.values.items = omega (arith, ap length v, c.requires.well.values, c.number_of-i.ensures.within) in
    let e = number_is c.self.inside.values.items p.values i i y v c.index.ensures refl b in
    let s = place_values p.variables p.values c.args.o.0 i y c.requires.well.numbers c.number_of-i.ensures.within c.number_of-i.ensures.at e in
    (i, c.number_of-i.ensures.within, c.number_of-i.ensures.at, c.place_of.ensures ∙ place_kept y s ∙ e)
