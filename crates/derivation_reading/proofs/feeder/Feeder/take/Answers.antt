use Rattle.std.proofs.Common.{[], ◌∷◌}
use Rattle.derivation_reading.proofs.Pieces.{stays_closed}
use Rattle.derivation_reading.proofs.feeder.Feeder.take.Goals as goal

pub returns-in_default-clause-come : goal.returns-in_default-clause-come
returns-in_default-clause-come c = stays_closed c.args.self.now (c.args.byte ∷ []) c.args.out.now.events c.in_default.not-Open
