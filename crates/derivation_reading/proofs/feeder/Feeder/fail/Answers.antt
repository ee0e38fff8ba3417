use Rattle.std.proofs.Common.{refl}
use Rattle.derivation_reading.proofs.feeder.Feeder.fail.Goals as goal

pub returns : goal.returns
returns c = rw c.saturating_add-place.ensures refl
