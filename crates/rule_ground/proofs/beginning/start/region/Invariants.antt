use Rattle.std.proofs.Common.{◌≡◌, ℕ, ◌<◌, length}
use Rattle.geo_base.specs.Boxes.{coordinate}
use Rattle.problem_data.specs.Pieces.{hulls, range_at}
use Rattle.rule_ground.proofs.beginning.start.region.Given as goal

-- the ends so far
abbrev pub invariant-loop-d : goal.invariant-loop-d
invariant-loop-d g l = record {
  lows : length l.lo.coordinates ≡ g.row.K;
  highs : length l.hi.coordinates ≡ g.row.K;
  low : (e : ℕ) → e < l.d → coordinate l.lo.coordinates e ≡ (range_at (hulls l.object) e).low;
  high : (e : ℕ) → e < l.d → coordinate l.hi.coordinates e ≡ (range_at (hulls l.object) e).high;
}
