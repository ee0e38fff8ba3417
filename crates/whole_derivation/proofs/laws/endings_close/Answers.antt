use Rattle.whole_derivation.proofs.Completing.{closes_derives}
use Rattle.whole_derivation.proofs.laws.endings_close.Goals as goal

pub returns : goal.returns
returns c = λ cs S es p. closes_derives cs S es p
