use Rattle.printed_derivation.proofs.Limited.{limited}
use Rattle.printed_derivation.proofs.laws.are_all_limited.Goals as goal

pub returns : goal.returns
returns c = λ S m root few fits. limited S m few root fits
