use Rattle.std.proofs.Common.{refl, sym, ◌∙◌, subst, inl, inr}
use Rattle.geo_conditions.proofs.Points.{inside_trans}
use Rattle.geo_conditions.specs.Reach.{State}
use Rattle.geo_conditions.specs.Supported.{IsGreatest}
use Rattle.plain_propagate.specs.declared.mending.Outcome.{Outcome}
use Rattle.plain_propagate.specs.Passes.{Passes}
use Rattle.plain_propagate.specs.Recorded.{RecordsOutcome, BlamesOutcome}
use Rattle.plain_propagate.proofs.Blaming.{blames_begun, blames_none, open_begun}
use Rattle.plain_propagate.proofs.Narrowed.{going_start, going_on, gone_dead, gone_kept, settles_failed}
use Rattle.derivation.proofs.Chains.{led_same, led_on, led_closed}
use Rattle.derivation.proofs.Continuing.{growth_none, growth_on, growth_failed}
use Rattle.plain_propagate.proofs.plain.settle.Goals as goal

pub returns-in-Dead-clause-record : goal.returns-in-Dead-clause-record
returns-in-Dead-clause-record g c = λ kept.
    let cs = c.args.cs.now in
    let R = c.passes.t.state in
    let mid = g.R.Recorder.list c.passes.rec in
    let end = g.R.Recorder.list c.pass.new.rec in
    led_closed cs c.args.t.now.state R (g.R.Recorder.list c.args.rec.now) mid end (c.passes.invariant.recorded kept) (subst (λ (a : Outcome). RecordsOutcome cs R a c.pass.new.t.state mid end) c.in-Dead.is (c.in_ok-pass.ensures.record kept))

pub returns-in-Fine-clause-record : goal.returns-in-Fine-clause-record
returns-in-Fine-clause-record g c = λ kept.
    let cs = c.args.cs.now in
    let R = c.passes.t.state in
    let mid = g.R.Recorder.list c.passes.rec in
    let end = g.R.Recorder.list c.pass.new.rec in
    led_on cs c.args.t.now.state R c.pass.new.t.state (g.R.Recorder.list c.args.rec.now) mid end (c.passes.invariant.recorded kept) (subst (λ (a : Outcome). RecordsOutcome cs R a c.pass.new.t.state mid end) c.in-Fine.is (c.in_ok-pass.ensures.record kept))

pub passes-init : goal.passes-init
passes-init g c =
    let cs = c.args.cs.now in
    let S = c.args.t.now.state in
    let old = g.R.Recorder.list c.args.rec.now in
    record {
      going = going_start cs S c.requires.fits;
      levels = (refl, refl);
      recorded = λ kept. led_same cs S S old old refl refl;
      begun = λ kept. inl (refl, refl);
      grows = growth_none g.R.Recorder.keeps old (g.R.Recorder.refusals c.args.rec.now);
    }

pub passes-preserved : goal.passes-preserved
passes-preserved g c =
    let cs = c.args.cs.now in
    let S = c.args.t.now.state in
    let R = c.passes.t.state in
    let Q = c.pass.new.t.state in
    let mid = g.R.Recorder.list c.passes.rec in
    let end = g.R.Recorder.list c.pass.new.rec in
    let i = c.passes.invariant in
    let m = subst (λ (x : Outcome). Passes cs R x Q) c.in-Changed.is c.in_ok-pass.ensures.passes in
    record {
      going = going_on cs S R Q i.going m.0;
      levels = (c.pass.ensures.levels.0 ∙ i.levels.0, c.pass.ensures.levels.1 ∙ i.levels.1);
      recorded = λ kept. led_on cs S R Q (g.R.Recorder.list c.args.rec.now) mid end (i.recorded kept) (subst (λ (a : Outcome). RecordsOutcome cs R a Q mid end) c.in-Changed.is (c.in_ok-pass.ensures.record kept));
      begun = λ kept. inr (open_begun cs S R (g.R.Recorder.list c.args.rec.now) mid (i.begun kept) (subst (λ (a : Outcome). BlamesOutcome cs R a mid end) c.in-Changed.is (c.in_ok-pass.ensures.blame kept)));
      grows = growth_on i.grows c.in_ok-pass.ensures.grows;
    }

pub returns-in-Dead-clause-blame : goal.returns-in-Dead-clause-blame
returns-in-Dead-clause-blame g c = λ kept.
    let cs = c.args.cs.now in
    let R = c.passes.t.state in
    let mid = g.R.Recorder.list c.passes.rec in
    let end = g.R.Recorder.list c.pass.new.rec in
    blames_begun cs c.args.t.now.state R (g.R.Recorder.list c.args.rec.now) mid end (c.passes.invariant.begun kept) (subst (λ (a : Outcome). BlamesOutcome cs R a mid end) c.in-Dead.is (c.in_ok-pass.ensures.blame kept))

pub returns-in-Fine-clause-blame : goal.returns-in-Fine-clause-blame
returns-in-Fine-clause-blame g c = λ kept.
    let cs = c.args.cs.now in
    let S = c.args.t.now.state in
    let R = c.passes.t.state in
    let old = g.R.Recorder.list c.args.rec.now in
    let mid = g.R.Recorder.list c.passes.rec in
    let end = g.R.Recorder.list c.pass.new.rec in
    blames_none cs S old end (open_begun cs S R old mid (c.passes.invariant.begun kept) (subst (λ (a : Outcome). BlamesOutcome cs R a mid end) c.in-Fine.is (c.in_ok-pass.ensures.blame kept)))

pub returns-in_err-pass-clause-grows : goal.returns-in_err-pass-clause-grows
returns-in_err-pass-clause-grows g c = growth_failed (growth_on c.passes.invariant.grows c.in_err-pass.ensures.grows) _ c.from_residual.ensures.0

pub returns-in-Dead-clause-grows : goal.returns-in-Dead-clause-grows
returns-in-Dead-clause-grows g c = growth_on c.passes.invariant.grows c.in_ok-pass.ensures.grows

pub returns-in-Fine-clause-grows : goal.returns-in-Fine-clause-grows
returns-in-Fine-clause-grows g c = growth_on c.passes.invariant.grows c.in_ok-pass.ensures.grows

pub returns-in_err-pass-clause-settles : goal.returns-in_err-pass-clause-settles
returns-in_err-pass-clause-settles g c = settles_failed c.args.cs.now c.args.t.now.state c.pass.new.t.state _ c.from_residual.ensures.0 (inside_trans c.pass.new.t.state c.passes.t.state c.args.t.now.state c.pass.ensures.inside c.passes.invariant.going.keeps.inside)

pub returns-in-Dead-clause-settles : goal.returns-in-Dead-clause-settles
returns-in-Dead-clause-settles g c =
    let cs = c.args.cs.now in
    let S = c.args.t.now.state in
    let R = c.passes.t.state in
    let Q = c.pass.new.t.state in
    let m = subst (λ (x : Outcome). Passes cs R x Q) c.in-Dead.is c.in_ok-pass.ensures.passes in
    gone_dead cs S R Q c.passes.invariant.going m.0 m.1

pub returns-in-Fine-clause-settles : goal.returns-in-Fine-clause-settles
returns-in-Fine-clause-settles g c =
    let cs = c.args.cs.now in
    let S = c.args.t.now.state in
    let R = c.passes.t.state in
    let Q = c.pass.new.t.state in
    let m = subst (λ (x : Outcome). Passes cs R x Q) c.in-Fine.is c.in_ok-pass.ensures.passes in
    subst (λ (X : State). IsGreatest cs S X) (sym m.0) (gone_kept cs S R c.passes.invariant.going m.1)
