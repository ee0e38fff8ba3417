use Rattle.derivation_reading.proofs.OneTree.{one_tree}
use Rattle.derivation_reading.proofs.laws.texts_have_one_tree.Goals as goal

pub returns : goal.returns
returns c = λ L ws a b x y. one_tree L ws a b x y
