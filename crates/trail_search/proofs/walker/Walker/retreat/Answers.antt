use Rattle.std.proofs.Common.{◌≡◌, ◌++◌, ◌∷◌, [], Bool, refl, ap, ◌∙◌, subst, arith, length}
use Rattle.std.proofs.Math.ListN.{length-append}
use Rattle.geo_conditions.proofs.Points.{inside_self}
use Rattle.std.specs.Prelude.{MatchBool}
use Rattle.trail_search.specs.Record.{IsRecord, IsClosedRecord}
use Rattle.trail_search.specs.Walker.{Leaves}
use Rattle.trail_search.proofs.Walking.{same_trans}
use Rattle.trail_search.proofs.Standing.{well_left, retreated, still_stuck}
use Rattle.trail_search.proofs.walker.Walker.retreat.Goals as goal

pub returns-then-leave-clause-well : goal.returns-then-leave-clause-well
returns-then-leave-clause-well g c =
    let i = c.loop-self.invariant in
    let l = subst (λ (b : Bool). Leaves b c.loop-self.self c.leave.new.self) c.if-leave.true c.leave.ensures.left in
    well_left g.row.K c.loop-self.self c.leave.new.self l.0 l.1 l.2 i.0 c.leave.ensures.same l.3 l.4.inside c.leave.ensures.values

pub returns-then-leave-clause-searches : goal.returns-then-leave-clause-searches
returns-then-leave-clause-searches g c = λ t cs w h.
    let i = c.loop-self.invariant in
    let o = i.0 in
    let l = subst (λ (b : Bool). Leaves b c.loop-self.self c.leave.new.self) c.if-leave.true c.leave.ensures.left in
    retreated cs c.loop-self.self c.leave.new.self w l.0 l.1 l.2 o.objects o.depth o.values c.leave.ensures.same l.3 c.leave.ensures.values (i.4 cs w h) c.leave.ensures.walked c.leave.ensures.along l.4

pub loop-self-preserved : goal.loop-self-preserved
loop-self-preserved g c =
    let i = c.loop-self.invariant in
    let o = i.0 in
    let p = c.loop-self.self in
    let r = c.leave.new.self in
    let l = subst (λ (b : Bool). Leaves b p r) c.if-leave.false c.leave.ensures.left in
    let n : length p.trail.restores ≡ length (r.trail.restores ++ r.trail.state ∷ []) = ap length l.2.restored in (
      well_left g.row.K p r r.trail.state l.0 l.1 o c.leave.ensures.same l.2 (inside_self r.trail.state) c.leave.ensures.values,
      same_trans c.args.self.now p r i.1 c.leave.ensures.same,
      c.leave.ensures.walked ∙ i.2,
      omega (arith, i.3, n, length-append r.trail.restores (r.trail.state ∷ [])),
      λ cs w h. still_stuck cs p r w r.trail.state l.0 l.1 o.objects o.depth o.values c.leave.ensures.same l.2 c.leave.ensures.values (i.4 cs w h) c.leave.ensures.walked c.leave.ensures.along l.3,
      λ cs es h. subst (λ (b : Bool). MatchBool b (IsRecord cs r es) (IsClosedRecord cs r es)) c.if-leave.false (c.leave.ensures.record cs es (i.5 cs es h)),
    )

pub returns-then-leave-clause-record : goal.returns-then-leave-clause-record
returns-then-leave-clause-record g c = λ cs es h.
    let r = c.leave.new.self in
    subst (λ (b : Bool). MatchBool b (IsRecord cs r es) (IsClosedRecord cs r es)) c.if-leave.true (c.leave.ensures.record cs es (c.loop-self.invariant.5 cs es h))

pub returns-clause-record : goal.returns-clause-record
returns-clause-record g c = c.loop-self.invariant.5

pub loop-self-init : goal.loop-self-init
loop-self-init g c = (c.requires.well, record { first = refl; variables = refl; token = refl }, refl, omega arith, (λ cs w h. h), (λ cs es h. h))

pub returns-then-leave-clause-same : goal.returns-then-leave-clause-same
returns-then-leave-clause-same g c = same_trans c.args.self.now c.loop-self.self c.leave.new.self c.loop-self.invariant.1 c.leave.ensures.same

pub returns-then-leave-clause-depth : goal.returns-then-leave-clause-depth
returns-then-leave-clause-depth g c = λ t.
    let i = c.loop-self.invariant in
    let p = c.loop-self.self in
    let r = c.leave.new.self in
    let l = subst (λ (b : Bool). Leaves b p r) c.if-leave.true c.leave.ensures.left in
    let n : length p.trail.restores ≡ length (r.trail.restores ++ l.0 ∷ []) = ap length l.3.restored in
    omega (arith, i.3, n, length-append r.trail.restores (l.0 ∷ []))

pub returns-then-leave-clause-stuck : goal.returns-then-leave-clause-stuck
returns-then-leave-clause-stuck g c = λ e. absurd (cc)

pub loop-self-smaller : goal.loop-self-smaller
loop-self-smaller g c =
    let p = c.loop-self.self in
    let r = c.leave.new.self in
    let l = subst (λ (b : Bool). Leaves b p r) c.if-leave.false c.leave.ensures.left in
    let n : length p.trail.restores ≡ length (r.trail.restores ++ r.trail.state ∷ []) = ap length l.2.restored in
    omega (arith, n, length-append r.trail.restores (r.trail.state ∷ []))
