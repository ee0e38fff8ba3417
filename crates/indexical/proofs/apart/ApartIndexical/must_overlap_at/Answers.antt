use Rattle.std.proofs.Common.{◌≡◌, ◌≢◌, ◌∙◌, ℕ, sym, ap, subst}
use Rattle.geo_conditions.specs.declared.object.ObjId.{ObjId}
use Rattle.geo_conditions.specs.Reach.{just, with_at}
use Rattle.indexical.specs.Apart.{MustOverlap}
use Rattle.indexical.proofs.PutBoxes.{other_way, overlap_aside, aside_overlap}
use Rattle.indexical.proofs.apart.ApartIndexical.must_overlap_at.Goals as goal

pub returns-then-object-o-2 : goal.returns-then-object-o-2
returns-then-object-o-2 g c =
    let x = c.args.self.now.first in
    let y = c.args.self.now.second in
    let p = just c.args.c.now.coordinates in
    let of : y.object.0 ≡ c.args.o.0 = sym (ap (λ (o : ObjId). o.0) c.object-else-object-o.ensures) ∙ c.if-object-o-2.true in
    let k = c.must_overlap_beside-then-object-o-2.ensures in (
      λ h. other_way y x (with_at c.args.s.now c.args.o.0 c.args.place p) (subst (λ (u : ℕ). MustOverlap y x (with_at c.args.s.now u c.args.place p)) of (k.0 h)),
      λ m. k.1 (subst (λ (u : ℕ). MustOverlap y x (with_at c.args.s.now u c.args.place p)) (sym of) (other_way x y (with_at c.args.s.now c.args.o.0 c.args.place p) m)),
    )

pub returns-else-object-o-2 : goal.returns-else-object-o-2
returns-else-object-o-2 g c =
    let x = c.args.self.now.first in
    let y = c.args.self.now.second in
    let p = just c.args.c.now.coordinates in
    let ne_x : x.object.0 ≢ c.args.o.0 = λ e. c.if-object-o.false (ap (λ (o : ObjId). o.0) c.object.ensures ∙ e) in
    let ne_y : y.object.0 ≢ c.args.o.0 = λ e. c.if-object-o-2.false (ap (λ (o : ObjId). o.0) c.object-else-object-o.ensures ∙ e) in (
      λ h. overlap_aside x y c.args.s.now c.args.o.0 c.args.place p ne_x ne_y (c.must_overlap.ensures.0 h),
      λ m. c.must_overlap.ensures.1 (aside_overlap x y c.args.s.now c.args.o.0 c.args.place p ne_x ne_y m),
    )
