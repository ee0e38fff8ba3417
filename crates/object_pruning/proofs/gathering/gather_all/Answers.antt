use Rattle.std.proofs.Common.{length, map, arith}
use Rattle.geo_conditions.specs.Regions.{region_of}
use Rattle.object_pruning.proofs.LivePicks.{goes_nowhere, goes_pick, goes_as, gathered_picks, IsBelow}
use Rattle.object_pruning.proofs.gathering.gather_all.Goals as goal

pub loop-k-init : goal.loop-k-init
loop-k-init g c = record {
  goes = goes_nowhere g.row.K (map g.I.Indexical.cond c.args.list.now) c.args.s.now c.args.o.0 c.args.place (region_of c.args.region.now) (IsBelow c.args.picks.now 0) 0 c.args.live.now (omega arith) (λ i p. absurd (omega (arith, p.1)));
  parts = c.requires.parts;
}

pub loop-k-preserved : goal.loop-k-preserved
loop-k-preserved g c =
    let picks = c.args.picks.now in
    let k = c.loop-k.k in
    record {
      goes = goes_pick g.row.K (map g.I.Indexical.cond c.args.list.now) c.args.s.now c.args.o.0 c.args.place (region_of c.args.region.now) picks k 0 c.loop-k.count c.in_ok-count.count c.args.live.now c.loop-k.live c.gather_number.new.live c.loop-k-test.true c.loop-k.invariant.goes
          c.in_ok-count.ensures.goes;
      parts = c.in_ok-count.ensures.parts;
    }

pub returns-clause-gathered : goal.returns-clause-gathered
returns-clause-gathered g c =
    gathered_picks g.row.K (map g.I.Indexical.cond c.args.list.now) c.args.s.now c.args.o.0 c.args.place (region_of c.args.region.now) c.args.picks.now c.loop-k.count c.args.live.now c.loop-k.live
    (goes_as g.row.K (map g.I.Indexical.cond c.args.list.now) c.args.s.now c.args.o.0 c.args.place (region_of c.args.region.now) (IsBelow c.args.picks.now c.loop-k.k) (IsBelow c.args.picks.now (length c.args.picks.now)) 0 c.loop-k.count c.args.live.now c.loop-k.live
    (λ i p. (p.0, p.2, p.2, p.3))
    (λ i q. (q.0, omega (arith, q.1, c.loop-k-test.false), q.2, q.3))
    c.loop-k.invariant.goes)
