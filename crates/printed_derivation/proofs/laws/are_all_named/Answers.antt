use Rattle.printed_derivation.proofs.Named.{named}
use Rattle.printed_derivation.proofs.laws.are_all_named.Goals as goal

pub returns : goal.returns
returns c = λ n S m root table fits. named n S m root table fits
