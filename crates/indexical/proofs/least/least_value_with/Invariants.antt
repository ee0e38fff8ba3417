use Rattle.std.proofs.Common.{◌≡◌, ℕ, ◌+◌, drop, ◌+ℤ◌}
use Rattle.geo_conditions.specs.Sums.{InSum}
use Rattle.geo_conditions.specs.Reach.{just, with_at}
use Rattle.geo_conditions.specs.Conditions.{least_value, sum_of, least_term}
use Rattle.indexical.proofs.least.least_value_with.Given as goal

abbrev pub invariant-loop-term : goal.invariant-loop-term
invariant-loop-term g l = record {
  value : (place : ℕ) → l.sum +ℤ sum_of (least_term (with_at l.s l.o.0 place (just l.c.coordinates))) (drop l.term-index l.term-items) ≡ least_value l.f (with_at l.s l.o.0 place (just l.c.coordinates));
  bound : InSum (l.term-index + 1) l.sum;
}
