use Rattle.derivation.specs.declared.event.Event.{Event}
use Rattle.std.proofs.lemmas.List.{length-append, length-set}
use Rattle.std.proofs.Common.{length, ap, ◌≡◌, ℕ, true, ◌-◌, subst, inl, inr, arith}
use Rattle.std.proofs.lemmas.Bool.{cases_lt}
use Rattle.geo_base.specs.Ways.{key}
use Rattle.derivation.proofs.Continuing.{growth_done, growth_refused, growth_on, growth_failed}
use Rattle.sweep.proofs.RecordSteps.{Continues-at_jump, mark_in, close_at}
use Rattle.sweep.proofs.record.close_chains.Goals as goal

pub set-requires : goal.set-requires
set-requires g c = λ kept.
    let way = c.args.way.now in
    let k = key g.row.K way.lead way.up in
    let w = c.requires.recorded kept in
    let was = c.loop-j.invariant.recorded kept w.0 w.1 w.2 w.3 in
    let added = c.in_ok-add.ensures.ok kept in
    rw (added, c.get.ensures) (mark_in g.row.K way.lead way.up w.0 (k c.args.first.now.coordinates) (k c.args.past.now.coordinates) w.1 w.2 (k c.args.n.now.coordinates) c.args.marks.now.places _ c.loop-j.j (c.loop-j.j - 1) _ (omega arith) was)

pub loop-j-preserved : goal.loop-j-preserved
loop-j-preserved g c =
    let way = c.args.way.now in
    let k = key g.row.K way.lead way.up in
    let out : k c.args.n.now.coordinates c.loop-j.j ≡ k c.args.past.now.coordinates c.loop-j.j = grind arith in
    record {
      level = omega arith;
      ran_out = λ i above b. elim (cases_lt c.loop-j.j i) [
        | inl l ↦ c.loop-j.invariant.ran_out i l b
        | inr m ↦ (let at_j : c.loop-j.j ≡ i = omega arith in subst (λ (x : ℕ). k c.args.n.now.coordinates x ≡ k c.args.past.now.coordinates x) at_j out)
      ];
      recorded = λ kept T base x o.
          let was = c.loop-j.invariant.recorded kept T base x o in
          let added = c.in_ok-add.ensures.ok kept in
          let ev = c.cut_before.ensures in
          rw (c.set.ensures.list kept, added, c.get.ensures) (close_at g.row.K way.lead way.up T (k c.args.first.now.coordinates) (k c.args.past.now.coordinates) base x (k c.args.n.now.coordinates) c.args.marks.now.places (g.R.Recorder.list c.loop-j.rec) c.loop-j.j (c.loop-j.j - 1) c.cut_before.result (omega arith) c.loop-j.invariant.level out ev was);
      length_is = λ kept. omega (arith, c.loop-j.invariant.length_is kept, ap length (c.set.ensures.list kept), ap length (c.in_ok-add.ensures.ok kept), length-append {A = Event}, length-set {A = Event});
      refusals = omega (arith, c.loop-j.invariant.refusals, c.add.ensures.refusals, c.set.ensures.refusals);
    }

pub returns-in_err-add-clause-few : goal.returns-in_err-add-clause-few
returns-in_err-add-clause-few g c = λ kept. omega (arith, c.loop-j.invariant.length_is kept, ap length (c.in_err-add.ensures.err kept))

pub returns-in_err-add-clause-grows : goal.returns-in_err-add-clause-grows
returns-in_err-add-clause-grows g c = λ T base x h.
    let way = c.args.way.now in
    let k = key g.row.K way.lead way.up in
    let was = λ (kept : g.R.Recorder.keeps ≡ true). Continues-at_jump g.row.K way.lead way.up T (k c.args.first.now.coordinates) (k c.args.past.now.coordinates) base x (k c.args.n.now.coordinates) c.args.marks.now.places (g.R.Recorder.list c.loop-j.rec) c.loop-j.j (c.loop-j.invariant.recorded kept T base x (h kept)) in
    growth_failed (growth_on (growth_done was c.loop-j.invariant.refusals) (growth_refused c.in_err-add.ensures.err c.add.ensures.refusals c.in_err-add.ensures.refused c.in_err-add.ensures.no_record)) _ c.from_residual.ensures.0

pub returns-after-loop-j-clause-grows : goal.returns-after-loop-j-clause-grows
returns-after-loop-j-clause-grows g c = λ T base x h.
    let way = c.args.way.now in
    let k = key g.row.K way.lead way.up in
    let was = λ (kept : g.R.Recorder.keeps ≡ true). Continues-at_jump g.row.K way.lead way.up T (k c.args.first.now.coordinates) (k c.args.past.now.coordinates) base x (k c.args.n.now.coordinates) c.args.marks.now.places (g.R.Recorder.list c.loop-j.rec) c.loop-j.j (c.loop-j.invariant.recorded kept T base x (h kept)) in
    growth_done was c.loop-j.invariant.refusals

pub returns-else-same_at-clause-grows : goal.returns-else-same_at-clause-grows
returns-else-same_at-clause-grows g c = λ T base x h.
    let way = c.args.way.now in
    let k = key g.row.K way.lead way.up in
    let was = λ (kept : g.R.Recorder.keeps ≡ true). Continues-at_jump g.row.K way.lead way.up T (k c.args.first.now.coordinates) (k c.args.past.now.coordinates) base x (k c.args.n.now.coordinates) c.args.marks.now.places (g.R.Recorder.list c.loop-j.rec) c.loop-j.j (c.loop-j.invariant.recorded kept T base x (h kept)) in
    growth_done was c.loop-j.invariant.refusals
