use Rattle.std.proofs.Common.{take}
use Rattle.std.specs.List.{All}
use Rattle.derivation.specs.Fits.{EventFits}
use Rattle.derivation_check.proofs.fitting.all_fit.Given as goal

abbrev pub invariant-loop-e : goal.invariant-loop-e
invariant-loop-e g l = All (EventFits l.objects g.row.K) (take l.e-index l.events)
