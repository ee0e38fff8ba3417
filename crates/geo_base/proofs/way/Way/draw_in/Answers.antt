use Rattle.std.proofs.Common.{◌≢◌, ℕ, ℤ, pos, ◌+ℤ◌, ap, ◌∙◌, below_more, arith}
use Rattle.std.specs.Int.{int_min}
use Rattle.geo_base.specs.Boxes.{coordinate}
use Rattle.geo_base.specs.Ways.{toward}
use Rattle.geo_base.proofs.way.Way.draw_in.Goals as goal

pub loop-d-preserved : goal.loop-d-preserved
loop-d-preserved g c =
    let up = c.args.self.now.up in
    let past = λ (d : ℕ). toward up (coordinate c.args.e.now.coordinates d) +ℤ pos 1 in
    record {
      drawn = below_more _ _
          (λ d below. let ne : d ≢ c.loop-d.d = omega arith in ap (toward up) (c.draw_in_at.ensures.others d ne) ∙ c.loop-d.invariant.drawn d below)
          (c.draw_in_at.ensures.same ∙ ap (λ (x : ℤ). int_min (toward up x) (past c.loop-d.d)) (c.loop-d.invariant.left c.loop-d.d (omega arith)));
      left = λ d above. let ne : d ≢ c.loop-d.d = omega arith in c.draw_in_at.ensures.others d ne ∙ c.loop-d.invariant.left d (omega arith);
    }
