use Rattle.std.proofs.Common.{◌≡◌, ◌+◌, suc, length, map, arith, ap, ◌∙◌, Some}
use Rattle.std.specs.Prelude.{slice_get}
use Rattle.std.proofs.lemmas.Option.{slice_get_within}
use Rattle.object_pruning.specs.InRows.{HaveNumber}
use Rattle.object_pruning.specs.Runs.{HaveBetween, start_at}
use Rattle.object_pruning.proofs.LivePicks.{goes_as}
use Rattle.object_pruning.proofs.RunPicks.{goes_run, start_next}
use Rattle.geo_conditions.specs.Regions.{region_of}
use Rattle.object_pruning.proofs.gathering.gather_row.Goals as goal

pub loop-j-preserved : goal.loop-j-preserved
loop-j-preserved g c =
    let runs = c.args.runs.now in
    let j = c.loop-j.j in
    let after : j + 1 ≡ suc j = omega arith in
    let run = c.run_at-run.result.now in
    let at : slice_get runs j ≡ Some run = c.run_at-run.ensures.at in
    let next : start_at 0 runs (j + 1) ≡ run.end = ap (start_at 0 runs) after ∙ start_next 0 j runs run at in
    record {
      parts = c.in_ok-gathered.ensures.parts;
      goes =
          goes_run g.row.K (map g.I.Indexical.cond c.args.list.now) c.args.s.now c.args.o.0 c.args.place (region_of c.args.region.now) c.args.groups.now (start_at 0 runs j) (start_at 0 runs (j + 1)) c.args.count c.loop-j.gathered c.in_ok-gathered.gathered run c.args.live.now c.loop-j.live c.gather_run.new.live
          (c.requires.runs.each j run at)
          next
          c.loop-j.invariant.goes
          c.in_ok-gathered.ensures.goes;
    }

pub returns-clause-goes : goal.returns-clause-goes
returns-clause-goes g c =
    let gs = c.args.groups.now in
    let runs = c.args.runs.now in
    let j = c.loop-j.j in
    let all : j ≡ length runs = omega (arith, c.loop-j-test.false, c.loop-j.auto.j-end) in
    let end : start_at 0 runs j ≡ length gs = ap (start_at 0 runs) all ∙ c.requires.runs.whole in
    goes_as g.row.K (map g.I.Indexical.cond c.args.list.now) c.args.s.now c.args.o.0 c.args.place (region_of c.args.region.now) (HaveBetween gs 0 (start_at 0 runs j)) (HaveNumber gs) c.args.count c.loop-j.gathered c.args.live.now c.loop-j.live
    (λ i p. (p.0, p.1, p.4, p.5))
    (λ i q. (q.0, q.1, omega arith, omega (arith, slice_get_within gs q.0 q.1 q.2, end), q.2, q.3))
    c.loop-j.invariant.goes
