use Rattle.std.proofs.Common.{◌∙◌, sym, ap}
use Rattle.derivation_check.specs.Judges.{answer}
use Rattle.derivation_check.specs.Machine.{Machine}
use Rattle.derivation_check.proofs.progress.Progress.verdict.Goals as goal

pub returns-in-Some : goal.returns-in-Some
returns-in-Some g c = ap answer (sym c.in-Some.is ∙ ap (λ (m : Machine). m.failed) c.self.view_is)
