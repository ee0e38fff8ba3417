use Rattle.std.proofs.Common.{◌≡◌, ◌-◌, true, ◌≤ℤ◌}
use Rattle.geo_base.specs.Boxes.{coordinate}
use Rattle.geo_conditions.specs.Regions.{region_of}
use Rattle.derivation.specs.Events.{HasGrown}
use Rattle.plain_propagate.proofs.Recorded.{RecordedUpTo}
use Rattle.plain_propagate.proofs.recording.+record_points.Given as goal

abbrev pub decreases-record_points : goal.decreases-record_points
decreases-record_points g l = g.row.K - l.d

abbrev pub invariant-loop-v : goal.invariant-loop-v
invariant-loop-v g l = record {
  from : coordinate l.b.lo.coordinates l.d ≤ℤ l.v;
  to : l.v ≤ℤ l.last;
  recorded : g.R.Recorder.keeps ≡ true → RecordedUpTo l.cs l.s l.o.0 l.place (region_of l.b) l.d l.v (g.R.Recorder.list l.fn.rec) (g.R.Recorder.list l.rec);
  grows : HasGrown g.R.Recorder.keeps g.R.Recorder.list g.R.Recorder.refusals l.fn.rec l.rec;
}
