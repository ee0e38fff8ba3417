use Rattle.geo_conditions.specs.Puts.{put_of}
use Rattle.std.proofs.Common.{◌≡◌, ◌+◌, drop, ◌+ℤ◌}
use Rattle.geo_conditions.specs.Sums.{InSum}
use Rattle.geo_conditions.specs.Reach.{put_on}
use Rattle.geo_conditions.specs.Conditions.{least_value, sum_of, least_term}
use Rattle.geo_conditions.proofs.refute.least_value.Given as goal

abbrev pub invariant-loop-term : goal.invariant-loop-term
invariant-loop-term g l = record {
  value : l.sum +ℤ sum_of (least_term (put_on (put_of l.put) l.s)) (drop l.term-index l.term-items) ≡ least_value l.f (put_on (put_of l.put) l.s);
  bound : InSum (l.term-index + 1) l.sum;
}
