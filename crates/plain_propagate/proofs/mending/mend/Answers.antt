use Rattle.std.proofs.Common.{refl, subst}
use Rattle.derivation.proofs.Continuing.{growth_failed}
use Rattle.plain_propagate.specs.Defects.{IsDefect}
use Rattle.plain_propagate.proofs.Finding.{gone_hopeless}
use Rattle.plain_propagate.proofs.mending.mend.Goals as goal

pub returns-in_ok-record_gone-in-Gone-clause-mended : goal.returns-in_ok-record_gone-in-Gone-clause-mended
returns-in_ok-record_gone-in-Gone-clause-mended g c = (
  gone_hopeless c.args.cs.now c.args.t.now.state c.in-Gone.o.0 (subst (IsDefect c.args.cs.now c.args.t.now.state) c.in-Gone.is c.requires.defect),
  refl,
)

pub returns-in_err-record_gone-in-Gone-clause-grows : goal.returns-in_err-record_gone-in-Gone-clause-grows
returns-in_err-record_gone-in-Gone-clause-grows g c = growth_failed c.in_err-record_gone-in-Gone.ensures.grows _ c.from_residual.ensures.0

pub returns-in_ok-record_gone-in-Gone-clause-grows : goal.returns-in_ok-record_gone-in-Gone-clause-grows
returns-in_ok-record_gone-in-Gone-clause-grows g c = c.in_ok-record_gone-in-Gone.ensures.grows

pub returns-in_err-take-in-NoPoint-clause-grows : goal.returns-in_err-take-in-NoPoint-clause-grows
returns-in_err-take-in-NoPoint-clause-grows g c = growth_failed c.in_err-take-in-NoPoint.ensures.grows _ c.from_residual-in_err-take-in-NoPoint.ensures.0

pub returns-in_ok-take-in-NoPoint-clause-grows : goal.returns-in_ok-take-in-NoPoint-clause-grows
returns-in_ok-take-in-NoPoint-clause-grows g c = c.in_ok-take-in-NoPoint.ensures.grows

pub returns-in_err-raise-in-NoLow-clause-grows : goal.returns-in_err-raise-in-NoLow-clause-grows
returns-in_err-raise-in-NoLow-clause-grows g c = growth_failed c.in_err-raise-in-NoLow.ensures.grows _ c.from_residual-in_err-raise-in-NoLow.ensures.0

pub returns-in_ok-raise-in-NoLow-clause-grows : goal.returns-in_ok-raise-in-NoLow-clause-grows
returns-in_ok-raise-in-NoLow-clause-grows g c = c.in_ok-raise-in-NoLow.ensures.grows

pub returns-in_err-lower-in-NoHigh-clause-grows : goal.returns-in_err-lower-in-NoHigh-clause-grows
returns-in_err-lower-in-NoHigh-clause-grows g c = growth_failed c.in_err-lower-in-NoHigh.ensures.grows _ c.from_residual-in_err-lower-in-NoHigh.ensures.0

pub returns-in_ok-lower-in-NoHigh-clause-grows : goal.returns-in_ok-lower-in-NoHigh-clause-grows
returns-in_ok-lower-in-NoHigh-clause-grows g c = c.in_ok-lower-in-NoHigh.ensures.grows
