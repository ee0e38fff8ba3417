use Rattle.std.proofs.Common.{arith}
use Rattle.std.proofs.lemmas.Int.{ints}
use Rattle.object_pruning.proofs.near.is_longer.Goals as goal

pub returns : goal.returns
returns c = λ test. omega (arith, ints, c.has_length.ensures test, c.requires.0, c.requires.1)
