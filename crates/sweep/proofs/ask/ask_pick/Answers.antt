use Rattle.std.proofs.Common.{map}
use Rattle.sweep.proofs.KnownParts.{part_forbidden, part_none}
use Rattle.sweep.proofs.PickedConditions.{mapped_picks}
use Rattle.sweep.proofs.ask.ask_pick.Goals as goal

pub returns-in-Some-clause-forbidden : goal.returns-in-Some-clause-forbidden
returns-in-Some-clause-forbidden g c =
    part_forbidden g.row.K (map g.I.Indexical.cond c.args.list.now) c.args.picks.now c.args.s.now c.args.o.0 c.args.place c.args.region.now c.args.parts.now c.requires.parts c.args.k c.in-Some.part.now c.in-Some.ensures
    (mapped_picks g.I.Indexical.cond c.args.list.now c.args.picks.now c.requires.picks) c.requires.k c.ask_part.result c.args.c.now.coordinates c.ask_part.ensures.some c.ask_part.ensures.none

pub returns-in-Some-clause-none : goal.returns-in-Some-clause-none
returns-in-Some-clause-none g c =
    part_none g.row.K (map g.I.Indexical.cond c.args.list.now) c.args.picks.now c.args.s.now c.args.o.0 c.args.place c.args.region.now c.args.parts.now c.requires.parts c.args.k c.in-Some.part.now c.in-Some.ensures
    (mapped_picks g.I.Indexical.cond c.args.list.now c.args.picks.now c.requires.picks) c.requires.k c.ask_part.result c.args.c.now.coordinates c.ask_part.ensures.some c.ask_part.ensures.none c.requires.inside
