use Rattle.std.proofs.Common.{◌≡◌, ℕ, ◌<◌, ◌≤◌}
use Rattle.std.specs.Int.{int_min, int_max}
use Rattle.geo_base.specs.Boxes.{coordinate}
use Rattle.geo_base.proofs.kbox.KBox.meet.Given as goal

abbrev pub invariant-loop-d : goal.invariant-loop-d
invariant-loop-d g l = record {
  lo_is : (e : ℕ) → e < l.d → coordinate l.lo.coordinates e ≡ int_max (coordinate l.self.lo.coordinates e) (coordinate l.other.lo.coordinates e);
  hi_is : (e : ℕ) → e < l.d → coordinate l.hi.coordinates e ≡ int_min (coordinate l.self.hi.coordinates e) (coordinate l.other.hi.coordinates e);
  lo_left : (e : ℕ) → l.d ≤ e → coordinate l.lo.coordinates e ≡ coordinate l.self.lo.coordinates e;
  hi_left : (e : ℕ) → l.d ≤ e → coordinate l.hi.coordinates e ≡ coordinate l.self.hi.coordinates e;
}
