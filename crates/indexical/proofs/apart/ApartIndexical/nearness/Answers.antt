use Rattle.std.proofs.Common.{◌≡◌, ◌∙◌, ℕ, ap, sym, subst}
use Rattle.geo_conditions.specs.declared.object.ObjId.{ObjId}
use Rattle.indexical.specs.Nearness.{IsRefutedNear}
use Rattle.indexical.proofs.NearBoxes.{near_first, near_second}
use Rattle.indexical.proofs.apart.ApartIndexical.nearness.Goals as goal

pub returns-then-object-o : goal.returns-then-object-o
returns-then-object-o g c = λ x says.
    let y = c.args.self.now in
    let near = near_first y.first y.second y.short x says y.ahead.coordinates y.behind.coordinates y.gaps.0 y.gaps.1 in
    let of : y.first.object.0 ≡ c.args.o.0 = sym (ap (λ (u : ObjId). u.0) c.object.ensures) ∙ c.if-object-o.true in
    let other = c.object-then-object-o.ensures in
    subst (λ (u : ObjId). IsRefutedNear g.row.K x c.args.o.0 u.0 y.ahead.coordinates y.behind.coordinates) (sym other)
    (subst (λ (o : ℕ). IsRefutedNear g.row.K x o y.second.object.0 y.ahead.coordinates y.behind.coordinates) of near)

pub returns-then-object-o-2 : goal.returns-then-object-o-2
returns-then-object-o-2 g c = λ x says.
    let y = c.args.self.now in
    let near = near_second y.first y.second y.short x says y.ahead.coordinates y.behind.coordinates y.gaps.0 y.gaps.1 in
    let of : y.second.object.0 ≡ c.args.o.0 = sym (ap (λ (u : ObjId). u.0) c.object-else-object-o.ensures) ∙ c.if-object-o-2.true in
    let other = c.object-then-object-o-2.ensures in
    subst (λ (u : ObjId). IsRefutedNear g.row.K x c.args.o.0 u.0 y.behind.coordinates y.ahead.coordinates) (sym other)
    (subst (λ (o : ℕ). IsRefutedNear g.row.K x o y.first.object.0 y.behind.coordinates y.ahead.coordinates) of near)
