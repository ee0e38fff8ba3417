use Rattle.std.proofs.Common.{arith}
use Rattle.std.proofs.lemmas.Int.{ints}
use Rattle.object_pruning.proofs.far.is_apart.Goals as goal

pub returns-then-is_below : goal.returns-then-is_below
returns-then-is_below c = λ test v lo hi f l. let below = c.is_below.ensures c.if-is_below.true in absurd (omega (arith, ints, below, lo, hi, f, l, c.requires.ends.0, c.requires.ends.1, c.requires.reach.0, c.requires.reach.1))

pub returns-then-is_below-2 : goal.returns-then-is_below-2
returns-then-is_below-2 c = λ test v lo hi f l. let below = c.is_below-2.ensures c.if-is_below-2.true in absurd (omega (arith, ints, below, lo, hi, f, l, c.requires.ends.0, c.requires.ends.1, c.requires.reach.0, c.requires.reach.1))

pub returns : goal.returns
returns c = λ test v lo hi f l. let below = c.is_below-3.ensures test in absurd (omega (arith, ints, below, lo, hi, f, l, c.requires.ends.0, c.requires.ends.1, c.requires.reach.0, c.requires.reach.1))
