use Rattle.std.proofs.Common.{◌≡◌, ℕ, ◌+◌, length, ◌-◌, ◌<◌, ◌≤◌, true, Bool, List, ℤ}
use Rattle.geo_base.specs.Ways.{key}
use Rattle.derivation.specs.declared.event.Event.{Event}
use Rattle.sweep.specs.Chains.{IsOpenAtJump}
use Rattle.sweep.proofs.record.close_chains.Given as goal

abbrev pub invariant-loop-j : goal.invariant-loop-j
invariant-loop-j g l =
    let k = key g.row.K l.way.lead l.way.up in
    record {
      level : l.j < g.row.K;
      ran_out : (i : ℕ) → l.j < i → i < g.row.K → k l.n.coordinates i ≡ k l.past.coordinates i;
      recorded : g.R.Recorder.keeps ≡ true → (T : ℕ → List ℤ → List ℤ → Bool) (base : List Event) (c : ℕ → ℤ)
          → IsOpenAtJump g.row.K l.way.lead l.way.up T (k l.first.coordinates) (k l.past.coordinates) (g.row.K - 1) c (k l.n.coordinates) l.marks.places base (g.R.Recorder.list l.initial.rec)
          → IsOpenAtJump g.row.K l.way.lead l.way.up T (k l.first.coordinates) (k l.past.coordinates) l.j c (k l.n.coordinates) l.marks.places base (g.R.Recorder.list l.rec);
      length_is : g.R.Recorder.keeps ≡ true → length (g.R.Recorder.list l.rec) + l.j ≡ length (g.R.Recorder.list l.initial.rec) + (g.row.K - 1);
      refusals : g.R.Recorder.refusals l.initial.rec ≤ g.R.Recorder.refusals l.rec;
    }

abbrev pub decreases-loop-j : goal.decreases-loop-j
decreases-loop-j g l = l.j
