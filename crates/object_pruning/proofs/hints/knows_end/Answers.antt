use Rattle.std.proofs.Common.{map, refl}
use Rattle.sweep.specs.Picks.{picked}
use Rattle.object_pruning.proofs.Supports.{supports_found}
use Rattle.object_pruning.proofs.hints.knows_end.Goals as goal

pub returns-then-end_stands-clause-tight : goal.returns-then-end_stands-clause-tight
returns-then-end_stands-clause-tight g c = λ t. c.end_stands.ensures c.if-end_stands.true (picked (map g.I.Indexical.cond c.args.list.now) c.args.picks.now) c.requires.kept

pub returns-in-Some-clause-tight : goal.returns-in-Some-clause-tight
returns-in-Some-clause-tight g c = λ t. (c.in-Some.q.place, c.in-Some.q.point.coordinates, c.in-Some.ensures.0, c.in-Some.ensures.1)

pub returns-in-Some-clause-kept : goal.returns-in-Some-clause-kept
returns-in-Some-clause-kept g c =
    let S = c.args.s.now in
    supports_found (picked (map g.I.Indexical.cond c.args.list.now) c.args.picks.now) S S c.args.o.0 c.args.kept.now c.keep.new.kept c.end_slot.result c.in-Some.q refl c.in-Some.ensures.0.point.unrefuted c.requires.kept c.keep.ensures
