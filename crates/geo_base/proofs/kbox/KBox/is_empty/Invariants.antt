use Rattle.std.proofs.Common.{ℕ, ◌<◌, ◌≤ℤ◌}
use Rattle.geo_base.specs.Boxes.{coordinate}
use Rattle.geo_base.proofs.kbox.KBox.is_empty.Given as goal

abbrev pub invariant-loop-d : goal.invariant-loop-d
invariant-loop-d g l = (e : ℕ) → e < l.d → coordinate l.self.lo.coordinates e ≤ℤ coordinate l.self.hi.coordinates e
