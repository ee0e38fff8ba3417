use Rattle.derivation_reading.proofs.Reached.{continues, reaches}
use Rattle.derivation_reading.proofs.feeder.Feeder.accept.Goals as goal

pub returns-clause-grown : goal.returns-clause-grown
returns-clause-grown c = continues _ _ _ _ _ _ c.step.ensures.accepts

pub returns-clause-reaches : goal.returns-clause-reaches
returns-clause-reaches c = reaches c.args.self.now c.step.new.self c.args.token c.args.symbol c.args.out.now.events c.step.new.out.events c.step.ensures.keeps c.step.ensures.accepts
