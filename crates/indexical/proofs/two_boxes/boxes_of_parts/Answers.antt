use Rattle.std.proofs.Common.{◌≡◌, ◌-◌, ◌*◌, ap, ◌∙◌, sym, arith, length, ◌<◌, Bool}
use Rattle.std.proofs.lemmas.Bool.{lt-ltb}
use Rattle.std.specs.Prelude.{if◌then◌else◌}
use Rattle.geo_base.specs.declared.point.Point.{Point}
use Rattle.geo_conditions.specs.declared.object.ObjId.{ObjId}
use Rattle.indexical.specs.declared.placed.PlacedBox.{PlacedBox}
use Rattle.indexical.specs.Apart.{apart_parts}
use Rattle.indexical.proofs.TwoLengths.{boxes_parts}
use Rattle.indexical.proofs.two_boxes.boxes_of_parts.Goals as goal

pub returns-in-Some-Some : goal.returns-in-Some-Some
returns-in-Some-Some g c =
    let K = g.row.K in
    let x = c.box_at_origin.result in
    let y = c.box_at_origin-in-Some-Some.result in
    let parts : c.args.parts.now ≡ apart_parts x y =
    boxes_parts x y c.args.parts.now c.split_at.result.0.now c.split_at.result.1.now (length c.args.parts.now - 2 * K) c.in-Some.a c.in-Some.b c.in-Some-Some.s c.in-Some-Some.t c.in-Some-Some.p.coordinates c.in-Some-Some.q.coordinates
    c.split_at.ensures.front c.split_at.ensures.back c.in-Some-Some.ensures c.in-Some-Some.ensures'.form c.box_at_origin.ensures.object c.box_at_origin-in-Some-Some.ensures.object c.box_at_origin.ensures.spared c.box_at_origin-in-Some-Some.ensures.spared
    c.box_at_origin.ensures.origin c.box_at_origin-in-Some-Some.ensures.origin (ap (λ (p : Point K). p.coordinates) c.box_at_origin.ensures.length) (ap (λ (p : Point K). p.coordinates) c.box_at_origin-in-Some-Some.ensures.length) in
    let before : x.object.0 < y.object.0 =
    let u = ap (λ (o : ObjId). o.0) c.box_at_origin.ensures.object in
    let v = ap (λ (o : ObjId). o.0) c.box_at_origin-in-Some-Some.ensures.object in
    omega (arith, u, v, c.in-Some.ensures) in
    let yes = lt-ltb x.object.0 y.object.0 before in
    let first : c.new.result.first ≡ x = c.new.ensures.first ∙ ap (λ (t : Bool). if t then x else y) yes in
    let second : c.new.result.second ≡ y = c.new.ensures.second ∙ ap (λ (t : Bool). if t then y else x) yes in
    parts ∙ ap (λ (z : PlacedBox K). apart_parts z y) (sym first) ∙ ap (λ (z : PlacedBox K). apart_parts c.new.result.first z) (sym second)
