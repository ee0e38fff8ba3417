use Rattle.whole_derivation.proofs.Completing.{completes_led}
use Rattle.whole_derivation.proofs.laws.chains_go_on.Goals as goal

pub returns : goal.returns
returns c = λ cs S T es p. completes_led cs S T es p
