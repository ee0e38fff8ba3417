use Rattle.std.proofs.Common.{map}
use Rattle.object_pruning.specs.Runs.{IsInGroup}
use Rattle.object_pruning.proofs.LivePicks.{group_spared, goes_past}
use Rattle.object_pruning.proofs.RunPicks.{sole_free}
use Rattle.geo_conditions.specs.Regions.{region_of}
use Rattle.object_pruning.proofs.gathering.gather_group.Goals as goal

pub returns-then-not-can_be_in_the_way-clause-goes : goal.returns-then-not-can_be_in_the_way-clause-goes
returns-then-not-can_be_in_the_way-clause-goes g c =
    let cs = map g.I.Indexical.cond c.args.list.now in
    let group = c.args.group.now in
    goes_past g.row.K cs c.args.s.now c.args.o.0 c.args.place (region_of c.args.region.now) (IsInGroup group) c.args.count c.args.live.now c.requires.room
    (group_spared cs c.args.s.now c.args.o.0 c.requires.fits c.requires.object g.row.K c.args.place (region_of c.args.region.now) group c.requires.group (sole_free c.args.s.now group.other group.other_place c.args.sole c.requires.sole (c.can_be_in_the_way.ensures c.if-not-can_be_in_the_way.true)))
