use Rattle.watches.proofs.Resting.{rests_unrefuted}
use Rattle.watches.proofs.parts.rests_by.Goals as goal

pub returns-else-refuted : goal.returns-else-refuted
returns-else-refuted g c =
    let pair = c.in_ok-pair.pair in
    rests_unrefuted c.part_at-part.result.now c.args.c.now c.args.s.now pair.first.0 pair.second.0 c.args.o.0 c.refuted.result c.part_at-part.ensures c.in_ok-pair.ensures c.if-refuted.false c.refuted.ensures
