use Rattle.std.proofs.Common.{◌≡◌, ◌≢◌, ◌∙◌, sym, ap}
use Rattle.std.proofs.lemmas.Bool.{true≢false}
use Rattle.geo_conditions.specs.declared.object.ObjId.{ObjId}
use Rattle.geo_conditions.specs.Reach.{just}
use Rattle.geo_conditions.specs.Regions.{region_of}
use Rattle.indexical.proofs.PutBoxes.{matched_other_way, overlap_aside, aside_overlap, region_is_part}
use Rattle.indexical.proofs.apart.ApartIndexical.overlap_part.Goals as goal

pub returns-then-object-o-2 : goal.returns-then-object-o-2
returns-then-object-o-2 g c =
    let of : c.args.self.now.second.object.0 ≡ c.args.o.0 = sym (ap (λ (o : ObjId). o.0) c.object-else-object-o.ensures) ∙ c.if-object-o-2.true in
    matched_other_way c.args.self.now.first c.args.self.now.second c.args.s.now c.args.o.0 c.args.place (region_of c.args.region.now) of c.overlap_beside-then-object-o-2.result c.overlap_beside-then-object-o-2.ensures

pub returns-then-is_empty : goal.returns-then-is_empty
returns-then-is_empty g c = λ q has m. c.is_empty.ensures.points.0 c.if-is_empty.true q has

pub returns-then-must_overlap : goal.returns-then-must_overlap
returns-then-must_overlap g c =
    let x = c.args.self.now.first in
    let y = c.args.self.now.second in
    let ne_x : x.object.0 ≢ c.args.o.0 = λ e. c.if-object-o.false (ap (λ (o : ObjId). o.0) c.object.ensures ∙ e) in
    let ne_y : y.object.0 ≢ c.args.o.0 = λ e. c.if-object-o-2.false (ap (λ (o : ObjId). o.0) c.object-else-object-o.ensures ∙ e) in
    region_is_part x y c.args.s.now c.args.o.0 c.args.place (region_of c.args.region.now) c.if-is_empty.ensures.ends
    (overlap_aside x y c.args.s.now c.args.o.0 c.args.place (region_of c.args.region.now) ne_x ne_y (c.must_overlap.ensures.0 c.if-must_overlap.true))

pub returns-else-must_overlap : goal.returns-else-must_overlap
returns-else-must_overlap g c =
    let x = c.args.self.now.first in
    let y = c.args.self.now.second in
    let ne_x : x.object.0 ≢ c.args.o.0 = λ e. c.if-object-o.false (ap (λ (o : ObjId). o.0) c.object.ensures ∙ e) in
    let ne_y : y.object.0 ≢ c.args.o.0 = λ e. c.if-object-o-2.false (ap (λ (o : ObjId). o.0) c.object-else-object-o.ensures ∙ e) in
    λ q has m. true≢false (sym (c.must_overlap.ensures.1 (aside_overlap x y c.args.s.now c.args.o.0 c.args.place (just q) ne_x ne_y m)) ∙ c.if-must_overlap.false)
