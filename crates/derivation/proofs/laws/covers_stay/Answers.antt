use Rattle.derivation.proofs.SmallerStates.{covers_stay}
use Rattle.derivation.proofs.laws.covers_stay.Goals as goal

pub returns : goal.returns
returns c = λ cs S T o s t c b inside placed smaller e. covers_stay cs S T o s t c b inside placed smaller e
