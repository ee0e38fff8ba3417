use Rattle.std.proofs.Common.{◌≡◌, ℕ, ◌<◌, ◌≤◌, ◌≤ℤ◌}
use Rattle.std.specs.Int.{int_min, int_max}
use Rattle.geo_base.specs.Boxes.{coordinate}
use Rattle.geo_conditions.specs.Reach.{reach}
use Rattle.indexical.specs.Apart.{first, last}
use Rattle.indexical.proofs.overlap.clash_part.Given as goal

-- the dimensions that were passed are cut, the others are the region's
abbrev pub invariant-loop-d : goal.invariant-loop-d
invariant-loop-d g l = record {
  lo_is : (e : ℕ) → e < l.d → coordinate l.lo.coordinates e ≡ int_max (coordinate l.region.lo.coordinates e) (first l.a l.b (reach l.s l.b.object.0).region e);
  hi_is : (e : ℕ) → e < l.d → coordinate l.hi.coordinates e ≡ int_min (coordinate l.region.hi.coordinates e) (last l.a l.b (reach l.s l.b.object.0).region e);
  some : (e : ℕ) → e < l.d → coordinate l.lo.coordinates e ≤ℤ coordinate l.hi.coordinates e;
  lo_left : (e : ℕ) → l.d ≤ e → coordinate l.lo.coordinates e ≡ coordinate l.region.lo.coordinates e;
  hi_left : (e : ℕ) → l.d ≤ e → coordinate l.hi.coordinates e ≡ coordinate l.region.hi.coordinates e;
}
