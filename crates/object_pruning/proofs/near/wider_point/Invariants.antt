use Rattle.std.proofs.Common.{◌≡◌, ℕ, ◌≤◌}
use Rattle.geo_base.specs.Boxes.{coordinate}
use Rattle.object_pruning.specs.Limits.{IsWithinReach}
use Rattle.object_pruning.specs.Limits.{IsAtLeast}
use Rattle.object_pruning.proofs.near.wider_point.Given as goal

-- in the dimensions that were passed it is at least both, in the others it is as the first point
abbrev pub invariant-loop-d : goal.invariant-loop-d
invariant-loop-d g l = record {
  small : IsWithinReach l.wider.coordinates;
  first : IsAtLeast l.d l.p.coordinates l.wider.coordinates;
  second : IsAtLeast l.d l.q.coordinates l.wider.coordinates;
  left : (e : ℕ) → l.d ≤ e → coordinate l.wider.coordinates e ≡ coordinate l.p.coordinates e;
}
