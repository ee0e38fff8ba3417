use Rattle.std.proofs.Common.{◌≡◌, drop}
use Rattle.linear_conditions.specs.Views.{wide_terms}
use Rattle.linear_conditions.proofs.WideSteps.{factors_fit}
use Rattle.linear_conditions.proofs.wide.WideSum.fits.Given as goal

abbrev pub invariant-loop-t : goal.invariant-loop-t
invariant-loop-t l = factors_fit (wide_terms (drop l.t-index l.t-items)) ≡ factors_fit (wide_terms l.t-items)
