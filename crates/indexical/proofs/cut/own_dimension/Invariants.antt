use Rattle.std.proofs.Common.{◌≡◌, ℕ, ◌<◌, Some, get_or, IfSome}
use Rattle.geo_conditions.specs.declared.form.Term.{Term}
use Rattle.indexical.proofs.cut.own_dimension.Given as goal

abbrev pub invariant-loop-term : goal.invariant-loop-term
invariant-loop-term g l = record {
  own : (k : ℕ) (x : Term) → k < l.term-index → (get_or l.term-items k x).object.0 ≡ l.o.0 → l.own ≡ Some (get_or l.term-items k x).dimension;
  dimension : IfSome l.own (λ d. d < g.row.K);
}
