use Rattle.std.proofs.Common.{◌≡◌, ◌+◌, drop, ◌+ℤ◌}
use Rattle.geo_conditions.specs.Sums.{InSum}
use Rattle.geo_conditions.specs.Conditions.{least_value, sum_of, least_term}
use Rattle.indexical.proofs.least.least_value_of.Given as goal

abbrev pub invariant-loop-term : goal.invariant-loop-term
invariant-loop-term g l = record {
  value : l.sum +ℤ sum_of (least_term l.s) (drop l.term-index l.term-items) ≡ least_value l.f l.s;
  bound : InSum (l.term-index + 1) l.sum;
}
