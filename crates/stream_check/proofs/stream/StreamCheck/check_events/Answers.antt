use Rattle.std.proofs.Common.{List, ◌++◌, subst}
use Rattle.derivation.specs.declared.event.Event.{Event}
use Rattle.derivation_check.specs.Machine.{HasTaken}
use Rattle.stream_check.proofs.stream.StreamCheck.check_events.Goals as goal

pub returns-clause-taken : goal.returns-clause-taken
returns-clause-taken g c = λ first es taken.
    subst (λ (more : List Event). HasTaken c.args.self.now.checker.conds first (es ++ more) c.give_all.new.checker.machine) c.events.ensures (c.in_ok-give_all.ensures.taken first es taken)
