use Rattle.std.proofs.Common.{◌≤◌, length, map}
use Rattle.geo_base.specs.Ways.{key, start}
use Rattle.geo_conditions.specs.Regions.{region_of}
use Rattle.sweep.proofs.Between.{IsBetween}
use Rattle.sweep.proofs.Progress.{remaining}
use Rattle.sweep.proofs.first_point.sweep_turns.Given as goal

abbrev pub invariant-turns : goal.invariant-turns
invariant-turns g l = record {
  from_in : l.from ≤ length l.picks;
  between : IsBetween g.row.K l.way.lead l.way.up g.R.Recorder.keeps (map g.I.Indexical.cond l.list) l.picks l.s l.o.0 l.place (region_of l.region) l.past.coordinates (g.R.Recorder.list l.fn.rec) (g.R.Recorder.refusals l.fn.rec) l.fn.steps l.c.coordinates l.n.coordinates l.marks.places (g.R.Recorder.list l.rec) (g.R.Recorder.refusals l.rec) l.steps;
}

abbrev pub decreases-turns : goal.decreases-turns
decreases-turns g l =
    let k = key g.row.K l.way.lead l.way.up in remaining g.row.K (k (start l.way.up l.region.lo.coordinates l.region.hi.coordinates)) (k l.c.coordinates)
