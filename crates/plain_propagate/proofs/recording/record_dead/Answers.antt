use Rattle.std.proofs.Common.{[], ◌∷◌}
use Rattle.std.proofs.lemmas.Result.{on_ok_weaker}
use Rattle.derivation.specs.declared.event.Event.TheVariants.{Dead}
use Rattle.derivation.specs.Chains.{IsDead}
use Rattle.derivation.proofs.Chains.{closes_end}
use Rattle.plain_propagate.proofs.recording.record_dead.Goals as goal

pub returns-clause-closed : goal.returns-clause-closed
returns-clause-closed g c = on_ok_weaker c.record_event.result (λ ok kept. (Dead c.args.i ∷ [], ok kept, closes_end c.args.cs.now c.args.s.now (IsDead c.args.i) c.requires.refuted)) c.record_event.ensures.added

pub returns-clause-grows : goal.returns-clause-grows
returns-clause-grows g c = c.record_event.ensures.grows
