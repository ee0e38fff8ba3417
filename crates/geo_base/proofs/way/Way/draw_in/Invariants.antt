use Rattle.std.proofs.Common.{◌≡◌, ℕ, ◌<◌, ◌≤◌, pos, ◌+ℤ◌}
use Rattle.std.specs.Int.{int_min}
use Rattle.geo_base.specs.Boxes.{coordinate}
use Rattle.geo_base.specs.Ways.{toward}
use Rattle.geo_base.proofs.way.Way.draw_in.Given as goal

abbrev pub invariant-loop-d : goal.invariant-loop-d
invariant-loop-d g l =
    record {
      drawn : (d : ℕ) → d < l.d → toward l.self.up (coordinate l.n.coordinates d) ≡ int_min (toward l.self.up (coordinate l.initial.n.coordinates d)) (toward l.self.up (coordinate l.e.coordinates d) +ℤ pos 1);
      left : (d : ℕ) → l.d ≤ d → coordinate l.n.coordinates d ≡ coordinate l.initial.n.coordinates d;
    }
