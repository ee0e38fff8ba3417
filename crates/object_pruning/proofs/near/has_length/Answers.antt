use Rattle.std.proofs.Common.{arith}
use Rattle.std.proofs.lemmas.Int.{ints}
use Rattle.object_pruning.proofs.near.has_length.Goals as goal

pub returns : goal.returns
returns c = λ test. omega (arith, ints, c.at_most.ensures test, c.from.ensures, c.from-2.ensures, c.from-3.ensures)
