use Rattle.std.proofs.Common.{ℕ, ℤ, ◌∙◌, arith}
use Rattle.std.specs.Int.{int_min, int_max}
use Rattle.std.proofs.lemmas.Int.{ints, clamps}
use Rattle.geo_base.specs.Boxes.{coordinate}
use Rattle.geo_base.proofs.Meeting.{meet_points}
use Rattle.geo_base.proofs.Loops.{mapped_more, left_more}
use Rattle.geo_base.proofs.kbox.KBox.meet.Goals as goal

pub loop-d-preserved : goal.loop-d-preserved
loop-d-preserved g c =
    let lo0 = coordinate c.args.self.now.lo.coordinates in
    let hi0 = coordinate c.args.self.now.hi.coordinates in
    let other_lo = coordinate c.args.other.now.lo.coordinates in
    let other_hi = coordinate c.args.other.now.hi.coordinates in
    let i = c.loop-d.invariant in
    let f = λ (e : ℕ) (x : ℤ). int_max x (other_lo e) in
    let h = λ (e : ℕ) (x : ℤ). int_min x (other_hi e) in
    record {
      lo_is = mapped_more f lo0 (coordinate c.loop-d.lo.coordinates) (coordinate c.set.new.self.coordinates) c.loop-d.d i.lo_left c.set.ensures.others i.lo_is (c.set.ensures.same ∙ omega (arith, ints, clamps, c.max.ensures.value, c.get.ensures, c.get-in-loop-d.ensures));
      hi_is = mapped_more h hi0 (coordinate c.loop-d.hi.coordinates) (coordinate c.set-in-loop-d.new.self.coordinates) c.loop-d.d i.hi_left c.set-in-loop-d.ensures.others i.hi_is (c.set-in-loop-d.ensures.same ∙ omega (arith, ints, clamps, c.min.ensures.value, c.get-in-loop-d-2.ensures, c.get-in-loop-d-3.ensures));
      lo_left = left_more f lo0 (coordinate c.loop-d.lo.coordinates) (coordinate c.set.new.self.coordinates) c.loop-d.d i.lo_left c.set.ensures.others;
      hi_left = left_more h hi0 (coordinate c.loop-d.hi.coordinates) (coordinate c.set-in-loop-d.new.self.coordinates) c.loop-d.d i.hi_left c.set-in-loop-d.ensures.others;
    }

pub returns-clause-points : goal.returns-clause-points
returns-clause-points g c =
    let i = c.loop-d.invariant in
    meet_points g.row.K _ _ _ _ _ _ (λ d in_k. i.lo_is d (omega arith)) (λ d in_k. i.hi_is d (omega arith))
