use Rattle.std.proofs.Common.{◌≡◌, ℕ, ◌<◌}
use Rattle.geo_base.specs.Boxes.{coordinate}
use Rattle.indexical.specs.Apart.{gap}
use Rattle.indexical.proofs.overlap.gaps.Given as goal

abbrev pub invariant-loop-d : goal.invariant-loop-d
invariant-loop-d g l = (e : ℕ) → e < l.d → coordinate l.gaps.coordinates e ≡ gap l.a l.b e
