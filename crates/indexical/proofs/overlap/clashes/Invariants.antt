use Rattle.std.proofs.Common.{ℕ, ◌<◌, ◌≤ℤ◌}
use Rattle.geo_base.specs.Boxes.{coordinate}
use Rattle.geo_conditions.specs.Reach.{reach}
use Rattle.indexical.specs.Apart.{first, last}
use Rattle.indexical.proofs.overlap.clashes.Given as goal

-- in the dimensions that were passed they overlap
abbrev pub invariant-loop-d : goal.invariant-loop-d
invariant-loop-d g l = (e : ℕ) → e < l.d → (first l.a l.b (reach l.s l.b.object.0).region e ≤ℤ coordinate l.lo.coordinates e) × (coordinate l.hi.coordinates e ≤ℤ last l.a l.b (reach l.s l.b.object.0).region e)
