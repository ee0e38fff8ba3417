use Rattle.derivation.proofs.Continuing.{growth_of_add}
use Rattle.plain_propagate.proofs.recording.record_event.Goals as goal

pub returns-clause-grows : goal.returns-clause-grows
returns-clause-grows g c = growth_of_add c.args.e c.add.result c.add.ensures.ok c.add.ensures.err c.add.ensures.refused c.add.ensures.refusals c.add.ensures.no_record
