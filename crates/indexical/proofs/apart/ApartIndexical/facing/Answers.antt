use Rattle.std.proofs.Common.{ap, sym, ◌∙◌}
use Rattle.geo_conditions.specs.declared.object.ObjId.{ObjId}
use Rattle.indexical.proofs.Faces.{faces_first, faces_second}
use Rattle.indexical.proofs.apart.ApartIndexical.facing.Goals as goal

pub returns-then-object-o : goal.returns-then-object-o
returns-then-object-o g c = λ x says.
    let y = c.args.self.now in
    let e = c.facing_beside.ensures in
    faces_first y.first y.second y.short x says y.in_order c.args.o.0 c.facing_beside.result (sym (ap (λ (u : ObjId). u.0) c.object.ensures) ∙ c.if-object-o.true) e.place e.other e.other_place

pub returns-then-object-o-2 : goal.returns-then-object-o-2
returns-then-object-o-2 g c = λ x says.
    let y = c.args.self.now in
    let e = c.facing_beside-then-object-o-2.ensures in
    faces_second y.first y.second y.short x says y.in_order c.args.o.0 c.facing_beside-then-object-o-2.result (sym (ap (λ (u : ObjId). u.0) c.object-else-object-o.ensures) ∙ c.if-object-o-2.true) e.place e.other e.other_place

pub returns-else-object-o-2 : goal.returns-else-object-o-2
returns-else-object-o-2 g c = λ x says. c.unknown.ensures x c.args.o.0
