use Rattle.linear_conditions.proofs.Compared.{opposite-compare}
use Rattle.linear_conditions.proofs.laws.opposites_differ.Goals as goal

pub returns : goal.returns
returns c = λ rel a b. opposite-compare rel a b
