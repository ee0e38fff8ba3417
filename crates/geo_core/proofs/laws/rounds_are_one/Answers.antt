use Rattle.geo_core.proofs.OneWay.{one_answer}
use Rattle.geo_core.proofs.laws.rounds_are_one.Goals as goal

pub returns : goal.returns
returns c = λ p n c d well a b. one_answer p n well c d a b
