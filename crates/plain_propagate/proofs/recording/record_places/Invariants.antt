use Rattle.std.proofs.Common.{◌≡◌, true}
use Rattle.geo_conditions.specs.Regions.{region_of}
use Rattle.derivation.specs.Events.{HasGrown}
use Rattle.derivation.specs.PlaceCovers.{RecordedBelow}
use Rattle.plain_propagate.proofs.recording.record_places.Given as goal

abbrev pub invariant-loop-place : goal.invariant-loop-place
invariant-loop-place g l = record {
  recorded : g.R.Recorder.keeps ≡ true → RecordedBelow l.cs l.s l.o.0 (region_of l.b) l.place (g.R.Recorder.list l.fn.rec) (g.R.Recorder.list l.rec);
  grows : HasGrown g.R.Recorder.keeps g.R.Recorder.list g.R.Recorder.refusals l.fn.rec l.rec;
}
