use Rattle.std.proofs.Common.{length, ◌+◌, ◌≡◌, true, ℕ, ℤ, Bool, List}
use Rattle.geo_base.specs.Ways.{key}
use Rattle.derivation.specs.declared.event.Event.{Event}
use Rattle.derivation.specs.Events.{HasGrown}
use Rattle.sweep.specs.Chains.{IsOpen}
use Rattle.sweep.proofs.record.open_chains.Given as goal

abbrev pub invariant-loop-p : goal.invariant-loop-p
invariant-loop-p g l =
    let k = key g.row.K l.way.lead l.way.up in
    record {
      recorded : g.R.Recorder.keeps ≡ true → (T : ℕ → List ℤ → List ℤ → Bool) (base : List Event)
          → IsOpen g.row.K l.way.lead l.way.up T (k l.first.coordinates) (k l.past.coordinates) l.j (k l.c.coordinates) (k l.n.coordinates) l.initial.marks.places base (g.R.Recorder.list l.initial.rec)
          → IsOpen g.row.K l.way.lead l.way.up T (k l.first.coordinates) (k l.past.coordinates) l.p (k l.c.coordinates) (k l.n.coordinates) l.marks.places base (g.R.Recorder.list l.rec);
      length_is : g.R.Recorder.keeps ≡ true → length (g.R.Recorder.list l.rec) + l.j ≡ length (g.R.Recorder.list l.initial.rec) + l.p;
      grows : HasGrown g.R.Recorder.keeps g.R.Recorder.list g.R.Recorder.refusals l.initial.rec l.rec;
    }
