use Rattle.std.proofs.Common.{map}
use Rattle.object_pruning.specs.Runs.{HaveBetween}
use Rattle.object_pruning.proofs.LivePicks.{goes_past}
use Rattle.object_pruning.proofs.NearRows.{far_run_spared}
use Rattle.object_pruning.proofs.RunPicks.{run_spared}
use Rattle.geo_conditions.specs.Regions.{region_of}
use Rattle.object_pruning.proofs.gathering.gather_run.Goals as goal

pub returns-then-is_passed_over-clause-goes : goal.returns-then-is_passed_over-clause-goes
returns-then-is_passed_over-clause-goes g c =
    let cs = map g.I.Indexical.cond c.args.list.now in
    let run = c.args.run.now in
    goes_past g.row.K cs c.args.s.now c.args.o.0 c.args.place (region_of c.args.region.now) (HaveBetween c.args.groups.now run.first run.end) c.args.count c.args.live.now c.requires.room
    (run_spared cs c.args.s.now c.args.o.0 c.requires.fits c.requires.object c.args.groups.now c.requires.groups run c.requires.run c.sole_place_of-sole.result c.sole_place_of-sole.ensures.asks (c.is_passed_over.ensures c.if-is_passed_over.true) c.sole_place_of-sole.ensures.sole g.row.K c.args.place (region_of c.args.region.now))

pub returns-then-is_run_far-clause-goes : goal.returns-then-is_run_far-clause-goes
returns-then-is_run_far-clause-goes g c =
    let cs = map g.I.Indexical.cond c.args.list.now in
    let run = c.args.run.now in
    goes_past g.row.K cs c.args.s.now c.args.o.0 c.args.place (region_of c.args.region.now) (HaveBetween c.args.groups.now run.first run.end) c.args.count c.args.live.now c.requires.room
    (far_run_spared cs c.args.s.now c.args.o.0 c.requires.fits c.requires.object c.args.groups.now c.requires.groups run c.requires.run (λ n. n.now) g.row.K c.args.place (region_of c.args.region.now) c.args.near c.requires.dims c.requires.near (c.is_run_far.ensures c.if-is_run_far.true))
