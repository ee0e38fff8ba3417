use Rattle.std.proofs.Common.{◌≡◌, ℕ, ◌<◌, pos, ◌+ℤ◌}
use Rattle.geo_base.specs.Boxes.{coordinate}
use Rattle.geo_base.specs.Ways.{toward}
use Rattle.geo_base.proofs.way.Way.one_past.Given as goal

abbrev pub invariant-loop-d : goal.invariant-loop-d
invariant-loop-d g l =
    (d : ℕ) → d < l.d → toward l.self.up (coordinate l.p.coordinates d) ≡ toward l.self.up (coordinate l.e.coordinates d) +ℤ pos 1
