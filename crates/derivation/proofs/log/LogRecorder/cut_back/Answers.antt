use Rattle.std.proofs.Common.{take, ap, ◌∙◌}
use Rattle.derivation.specs.Events.{Kept}
use Rattle.derivation.proofs.log.LogRecorder.cut_back.Goals as goal

pub returns-clause-list : goal.returns-clause-list
returns-clause-list c = λ _. c.truncate.ensures.items ∙ ap (λ (k : Kept). take c.args.mark k.events) c.self.view_is
