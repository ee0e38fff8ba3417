use Rattle.std.proofs.Common.{arith}
use Rattle.derivation.proofs.OtherNumbers.{renumbers_more}
use Rattle.derivation.proofs.renumbering.Renumbering.events.Goals as goal

pub loop-e-preserved : goal.loop-e-preserved
loop-e-preserved c =
    renumbers_more c.args.self.now c.args.events.now c.loop-e.events c.loop-e.e-index _ c.event.result (omega arith) c.loop-e.auto.events c.loop-e.invariant c.event.ensures
