use Rattle.std.proofs.Common.{◌≡◌, take, map}
use Rattle.geo_conditions.specs.Terms.{term_of}
use Rattle.linear_conditions.specs.Views.{wide_terms}
use Rattle.linear_conditions.proofs.wide.WideSum.to_form.Given as goal

abbrev pub invariant-loop-t : goal.invariant-loop-t
invariant-loop-t l = map term_of l.terms.items ≡ wide_terms (take l.t-index l.t-items)
