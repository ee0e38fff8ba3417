use Rattle.std.proofs.Common.{◌≡◌, ◌+◌, ◌-◌, take, Bool, refl, ap, ◌∙◌, subst, arith, length, Option, ℕ, true}
use Rattle.std.specs.Prelude.{MatchOption}
use Rattle.geo_conditions.specs.Reach.{State, Inside}
use Rattle.geo_conditions.specs.Supported.{NoneInside, NoneRefuted}
use Rattle.geo_conditions.proofs.Points.{inside_self, inside_trans}
use Rattle.derivation.specs.Covers.{refutes}
use Rattle.plain_propagate.specs.declared.mending.Outcome.{Outcome}
use Rattle.plain_propagate.specs.Passes.{Repairs}
use Rattle.derivation.specs.Chains.{IsLed}
use Rattle.plain_propagate.specs.Recorded.{RecordsOutcome}
use Rattle.plain_propagate.proofs.Blaming.{blames_first, blames_none}
use Rattle.derivation.proofs.Refuting.{some_refuted}
use Rattle.derivation.proofs.Chains.{led_same, led_on, led_closed}
use Rattle.derivation.proofs.Continuing.{growth_none, growth_on, growth_failed}
use Rattle.plain_propagate.proofs.Finding.{refuted_hopeless, all_supported}
use Rattle.plain_propagate.proofs.Narrowed.{Unless, FineBelow, going_start, gone_dead}
use Rattle.plain_propagate.proofs.Passing.{Along, along_changed, along_fine}
use Rattle.plain_propagate.proofs.mending.pass.Goals as goal
use Rattle.plain_propagate.proofs.mending.pass.Goals.{in-Changed, in-Fine}

pub returns-in-Some-clause-passes : goal.returns-in-Some-clause-passes
returns-in-Some-clause-passes g c =
    let cs = c.args.cs.now in (
      subst (NoneInside cs) c.state.ensures.value (refuted_hopeless cs c.state.result.now (some_refuted cs c.in-Some.i c.state.result.now c.in-Some.ensures.found)),
      inside_self c.args.t.now.state,
    )

pub returns-in-Dead-clause-record : goal.returns-in-Dead-clause-record
returns-in-Dead-clause-record g c = λ kept.
    let cs = c.args.cs.now in
    let R = c.loop-o.t.state in
    let mid = g.R.Recorder.list c.loop-o.rec in
    let end = g.R.Recorder.list c.repair.new.rec in
    led_closed cs c.args.t.now.state R (g.R.Recorder.list c.args.rec.now) mid end (c.loop-o.invariant.recorded kept) (subst (λ (a : Outcome). RecordsOutcome cs R a c.repair.new.t.state mid end) c.in-Dead.is (c.in_ok-outcome.ensures.record kept))

pub loop-o-init : goal.loop-o-init
loop-o-init g c =
    let cs = c.args.cs.now in
    let S = c.args.t.now.state in
    let old = g.R.Recorder.list c.args.rec.now in
    record {
      going = going_start cs S c.requires.fits;
      unless = refl;
      fine = λ u h. absurd (omega arith);
      levels = (refl, refl);
      recorded = λ kept. led_same cs S S old old refl refl;
      grows = growth_none g.R.Recorder.keeps old (g.R.Recorder.refusals c.args.rec.now);
    }

pub loop-o-preserved : goal.loop-o-preserved
loop-o-preserved g c =
    let cs = c.args.cs.now in
    let S = c.args.t.now.state in
    let R = c.loop-o.t.state in
    let Q = c.repair.new.t.state in
    let old = g.R.Recorder.list c.args.rec.now in
    let mid = g.R.Recorder.list c.loop-o.rec in
    let end = g.R.Recorder.list c.repair.new.rec in
    let i = c.loop-o.invariant in
    let a : Along cs S R c.loop-o.changed c.loop-o.o = (i.going, i.unless, i.fine) in
    let b : Along cs S Q c.match-outcome.changed (c.loop-o.o + 1) × (g.R.Recorder.keeps ≡ true → IsLed cs R Q mid end) = elim c.match-outcome.branch [
      | in-Changed w ↦ (
        along_changed cs S R Q c.loop-o.changed c.match-outcome.changed c.loop-o.o a (subst (λ (x : Outcome). Repairs cs R c.loop-o.o x Q) w.in-Changed.is c.in_ok-outcome.ensures.repairs) w.changed-is,
        λ kept. subst (λ (x : Outcome). RecordsOutcome cs R x Q mid end) w.in-Changed.is (c.in_ok-outcome.ensures.record kept),
      )
      | in-Fine w ↦ let f = subst (λ (x : Outcome). Repairs cs R c.loop-o.o x Q) w.in-Fine.is c.in_ok-outcome.ensures.repairs in (
        along_fine cs S R Q c.loop-o.changed c.match-outcome.changed c.loop-o.o a f.0 f.1 w.changed-is,
        λ kept. subst (λ (x : Outcome). RecordsOutcome cs R x Q mid end) w.in-Fine.is (c.in_ok-outcome.ensures.record kept),
      )
    ] in
    record {
      going = b.0.0;
      unless = b.0.1;
      fine = b.0.2;
      levels = (c.repair.ensures.levels.0 ∙ i.levels.0, c.repair.ensures.levels.1 ∙ i.levels.1);
      recorded = λ kept. led_on cs S R Q old mid end (i.recorded kept) (b.1 kept);
      grows = growth_on i.grows c.in_ok-outcome.ensures.grows;
    }

pub returns-else-changed-clause-passes : goal.returns-else-changed-clause-passes
returns-else-changed-clause-passes g c =
    let cs = c.args.cs.now in
    let S = c.args.t.now.state in
    let i = c.loop-o.invariant in
    let none : NoneRefuted cs c.state.result.now = subst (λ (a : Option ℕ). MatchOption a (NoneRefuted cs c.state.result.now) (λ n. refutes cs n c.state.result.now ≡ true)) c.in_default.is c.first_refuted.ensures.found in
    let same : c.loop-o.t.state ≡ S = subst (λ (b : Bool). Unless b cs S c.loop-o.t.state) c.if-changed.false i.unless in
    let fine : FineBelow c.loop-o.changed cs S c.loop-o.o = subst (λ (T : State). FineBelow c.loop-o.changed cs T c.loop-o.o) same i.fine in
    let all = subst (λ (b : Bool). FineBelow b cs S c.loop-o.o) c.if-changed.false fine in (
      same,
      all_supported cs S (subst (NoneRefuted cs) c.state.ensures.value none)
          (λ o h. all o (omega (arith, h, c.objects-objects.ensures.number, ap length c.state-2.ensures.value, c.loop-o-test.false))),
    )

pub returns-in_err-record_dead-clause-grows : goal.returns-in_err-record_dead-clause-grows
returns-in_err-record_dead-clause-grows g c = growth_failed c.in_err-record_dead.ensures.grows _ c.from_residual.ensures.0

pub returns-in-Some-clause-grows : goal.returns-in-Some-clause-grows
returns-in-Some-clause-grows g c = c.in_ok-record_dead.ensures.grows

pub returns-in_err-outcome-clause-grows : goal.returns-in_err-outcome-clause-grows
returns-in_err-outcome-clause-grows g c = growth_failed (growth_on c.loop-o.invariant.grows c.in_err-outcome.ensures.grows) _ c.from_residual-in_err-outcome.ensures.0

pub returns-in-Dead-clause-grows : goal.returns-in-Dead-clause-grows
returns-in-Dead-clause-grows g c = growth_on c.loop-o.invariant.grows c.in_ok-outcome.ensures.grows

pub returns-then-changed-clause-grows : goal.returns-then-changed-clause-grows
returns-then-changed-clause-grows g c = c.loop-o.invariant.grows

pub returns-else-changed-clause-grows : goal.returns-else-changed-clause-grows
returns-else-changed-clause-grows g c = c.loop-o.invariant.grows

pub returns-in-Some-clause-blame : goal.returns-in-Some-clause-blame
returns-in-Some-clause-blame g c = λ kept.
    blames_first c.args.cs.now c.args.t.now.state c.in-Some.i (g.R.Recorder.list c.args.rec.now) (g.R.Recorder.list c.record_dead.new.rec) (subst (NoneRefuted (take (c.in-Some.i - 1) c.args.cs.now)) c.state.ensures.value c.in-Some.ensures.first)
    (c.in_ok-record_dead.ensures.added kept)

pub returns-in-Dead-clause-blame : goal.returns-in-Dead-clause-blame
returns-in-Dead-clause-blame g c = λ kept.
    blames_none c.args.cs.now c.args.t.now.state (g.R.Recorder.list c.args.rec.now) (g.R.Recorder.list c.repair.new.rec) (subst (NoneRefuted c.args.cs.now) c.state.ensures.value
    (subst (λ (a : Option ℕ). MatchOption a (NoneRefuted c.args.cs.now c.state.result.now) (λ n. refutes c.args.cs.now n c.state.result.now ≡ true)) c.in_default.is c.first_refuted.ensures.found))

pub returns-then-changed-clause-blame : goal.returns-then-changed-clause-blame
returns-then-changed-clause-blame g c = λ kept.
    subst (NoneRefuted c.args.cs.now) c.state.ensures.value
    (subst (λ (a : Option ℕ). MatchOption a (NoneRefuted c.args.cs.now c.state.result.now) (λ n. refutes c.args.cs.now n c.state.result.now ≡ true)) c.in_default.is c.first_refuted.ensures.found)

pub returns-else-changed-clause-blame : goal.returns-else-changed-clause-blame
returns-else-changed-clause-blame g c = λ kept.
    subst (NoneRefuted c.args.cs.now) c.state.ensures.value
    (subst (λ (a : Option ℕ). MatchOption a (NoneRefuted c.args.cs.now c.state.result.now) (λ n. refutes c.args.cs.now n c.state.result.now ≡ true)) c.in_default.is c.first_refuted.ensures.found)

pub returns-in_err-outcome-clause-inside : goal.returns-in_err-outcome-clause-inside
returns-in_err-outcome-clause-inside g c = inside_trans c.repair.new.t.state c.loop-o.t.state c.args.t.now.state c.repair.ensures.inside c.loop-o.invariant.going.keeps.inside

pub returns-in-Dead-clause-passes : goal.returns-in-Dead-clause-passes
returns-in-Dead-clause-passes g c =
    let cs = c.args.cs.now in
    let R = c.loop-o.t.state in
    let Q = c.repair.new.t.state in
    let r : NoneInside cs R × Inside Q R = subst (λ (a : Outcome). Repairs cs R c.loop-o.o a Q) c.in-Dead.is c.in_ok-outcome.ensures.repairs in
    gone_dead cs c.args.t.now.state R Q c.loop-o.invariant.going r.0 r.1

pub returns-in-Dead-clause-inside : goal.returns-in-Dead-clause-inside
returns-in-Dead-clause-inside g c = inside_trans c.repair.new.t.state c.loop-o.t.state c.args.t.now.state c.repair.ensures.inside c.loop-o.invariant.going.keeps.inside

pub returns-then-changed-clause-passes : goal.returns-then-changed-clause-passes
returns-then-changed-clause-passes g c = subst (λ (b : Bool). Unless b c.args.cs.now c.args.t.now.state c.loop-o.t.state) c.if-changed.true c.loop-o.invariant.unless

pub returns-then-changed-clause-inside : goal.returns-then-changed-clause-inside
returns-then-changed-clause-inside g c = c.loop-o.invariant.going.keeps.inside

pub returns-else-changed-clause-inside : goal.returns-else-changed-clause-inside
returns-else-changed-clause-inside g c = c.loop-o.invariant.going.keeps.inside
