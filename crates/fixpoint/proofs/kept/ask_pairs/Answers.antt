use Rattle.std.proofs.Common.{arith}
use Rattle.fixpoint.proofs.kept.ask_pairs.Goals as goal

pub ask_all-requires : goal.ask_all-requires
ask_all-requires g c = (omega arith, (omega arith, (omega arith, (c.requires.k, (c.requires.fits, (c.requires.object.0, c.requires.pairs))))))

pub returns-then-has : goal.returns-then-has
returns-then-has g c = c.ask_all.ensures c.args.marks.now

pub returns-else-has : goal.returns-else-has
returns-else-has g c = c.ask_marked.ensures
