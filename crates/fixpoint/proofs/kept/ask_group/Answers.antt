use Rattle.std.proofs.Common.{map}
use Rattle.indexical.specs.declared.any.AnyIndexical.{AnyIndexical}
use Rattle.fixpoint.proofs.Asked.{spared_by_sole, those_spared}
use Rattle.fixpoint.proofs.kept.ask_group.Goals as goal

pub returns-then-not-can_be_in_the_way : goal.returns-then-not-can_be_in_the_way
returns-then-not-can_be_in_the_way g c = λ marks.
    let group = c.args.b.now.group in
    let free = spared_by_sole c.args.s.now group.other c.args.u.0 group.other_place c.args.sole c.requires.sole (c.can_be_in_the_way.ensures c.if-not-can_be_in_the_way.true) in
    those_spared (map (λ (x : AnyIndexical g.row.K). x.cond) c.args.list.now) c.args.s.now c.args.o.0 marks c.args.b.now.row group c.args.kept.now c.requires.fits c.requires.object c.requires.group free
