use Rattle.whole_derivation.proofs.Completing.{split_derives}
use Rattle.whole_derivation.proofs.laws.splits_join.Goals as goal

pub returns : goal.returns
returns c = λ cs S o half es fs h a b. split_derives cs S o half es fs h a b
