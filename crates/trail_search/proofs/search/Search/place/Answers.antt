use Rattle.std.proofs.Common.{◌≡◌, ◌<◌, length, ap, sym, ◌∙◌, arith, Some}
use Rattle.geo_conditions.specs.Walk.{values}
use Rattle.geo_conditions.proofs.Walks.{same_pos}
use Rattle.trail_search.specs.Next.{SearchView, layout_when}
use Rattle.trail_search.proofs.Layouts.{has_place, found_values, place_found}
use Rattle.trail_search.proofs.search.Search.place.Goals as goal

pub place-requires : goal.place-requires
place-requires g c =
    let i = c.self.invariant in
    let p = c.self.inside.walker in
    let h : c.args.o.0 < length p.first = omega (arith, c.requires.object, ap (λ (q : SearchView). length q.walk.first) c.self.view_is) in
    (omega arith, (c.requires.k, (i.well, has_place g.row.K p c.args.o.0 i.state i.named h)))

pub returns : goal.returns
returns g c = λ t f.
    let p = c.self.inside.walker in
    let v = c.self.view_is in
    let l : layout_when c.self.inside.found p.values ≡ Some (values p.variables t) = ap (λ (q : SearchView). q.layout) v ∙ f ∙ ap (λ (q : SearchView). Some (values q.walk.variables t)) (sym v) in
    let e = c.place.ensures in
    same_pos c.place.result _ (e.3 ∙ place_found p.variables p.values t c.args.o.0 e.0 (found_values c.self.inside.found p.values _ l) e.1 e.2)
