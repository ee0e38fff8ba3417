use Rattle.std.proofs.Common.{◌≡◌, ◌++◌, drop}
use Rattle.linear_conditions.specs.Sums.{scale_terms}
use Rattle.linear_conditions.specs.Views.{wide_terms}
use Rattle.linear_conditions.proofs.wide.WideSum.scaled.Given as goal

abbrev pub invariant-loop-t : goal.invariant-loop-t
invariant-loop-t l = wide_terms l.terms.items ++ scale_terms l.z (wide_terms (drop l.t-index l.t-items)) ≡ scale_terms l.z (wide_terms l.t-items)
