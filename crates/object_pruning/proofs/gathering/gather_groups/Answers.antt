use Rattle.std.proofs.Common.{◌≡◌, map, arith}
use Rattle.object_pruning.specs.Runs.{HaveBetween}
use Rattle.object_pruning.proofs.LivePicks.{goes_as, goes_nowhere}
use Rattle.object_pruning.proofs.RunPicks.{goes_between}
use Rattle.geo_conditions.specs.Regions.{region_of}
use Rattle.object_pruning.proofs.gathering.gather_groups.Goals as goal

pub loop-k-init : goal.loop-k-init
loop-k-init g c = record {
  goes = goes_nowhere g.row.K (map g.I.Indexical.cond c.args.list.now) c.args.s.now c.args.o.0 c.args.place (region_of c.args.region.now) (HaveBetween c.args.groups.now c.args.run.now.first c.args.run.now.first) c.args.count c.args.live.now c.requires.room (λ i p. absurd (omega (arith, p.2, p.3)));
  parts = c.requires.parts;
}

pub loop-k-preserved : goal.loop-k-preserved
loop-k-preserved g c = record {
  parts = c.in_ok-gathered.ensures.parts;
  goes =
      goes_between g.row.K (map g.I.Indexical.cond c.args.list.now) c.args.s.now c.args.o.0 c.args.place (region_of c.args.region.now) c.args.groups.now c.args.run.now.first c.loop-k.k c.group_at-group.result.now c.args.count c.loop-k.gathered c.in_ok-gathered.gathered c.args.live.now c.loop-k.live c.gather_group.new.live c.loop-k.auto.k c.group_at-group.ensures.at c.loop-k.invariant.goes c.in_ok-gathered.ensures.goes;
}

pub returns-clause-goes : goal.returns-clause-goes
returns-clause-goes g c =
    let gs = c.args.groups.now in
    let k = c.loop-k.k in
    let run = c.args.run.now in
    let e : k ≡ run.end = omega (arith, c.loop-k-test.false, c.loop-k.auto.k-end, c.requires.run.some) in
    goes_as g.row.K (map g.I.Indexical.cond c.args.list.now) c.args.s.now c.args.o.0 c.args.place (region_of c.args.region.now) (HaveBetween gs run.first k) (HaveBetween gs run.first run.end) c.args.count c.loop-k.gathered c.args.live.now c.loop-k.live
    (λ i p. (p.0, p.1, p.2, omega (arith, p.3, e), p.4, p.5))
    (λ i q. (q.0, q.1, q.2, omega (arith, q.3, e), q.4, q.5))
    c.loop-k.invariant.goes
