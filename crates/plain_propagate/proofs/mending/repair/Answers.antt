use Rattle.std.proofs.Common.{◌≡◌, Bool, refl, sym, ◌∙◌, subst, Option}
use Rattle.std.specs.Prelude.{MatchBool, MatchOption}
use Rattle.geo_conditions.specs.Reach.{State, Inside}
use Rattle.geo_conditions.proofs.Points.{inside_self}
use Rattle.geo_conditions.specs.Supported.{NoneInside}
use Rattle.plain_propagate.specs.declared.defects.Defect.{Defect}
use Rattle.plain_propagate.specs.Defects.{ObjectFine, IsDefect}
use Rattle.plain_propagate.specs.Passes.{IsNarrower}
use Rattle.derivation.specs.Chains.{IsLed, IsClosed}
use Rattle.plain_propagate.proofs.Narrowed.{Mended, Unless, going_start, going_on, gone_dead, unless_on}
use Rattle.derivation.proofs.Chains.{led_same, led_on, led_closed}
use Rattle.derivation.proofs.Continuing.{growth_none, growth_on, growth_failed}
use Rattle.plain_propagate.proofs.mending.repair.Goals as goal

pub loop-defect-init : goal.loop-defect-init
loop-defect-init g c =
    let cs = c.args.cs.now in
    let S = c.args.t.now.state in
    let old = g.R.Recorder.list c.args.rec.now in
    record {
      going = going_start cs S c.requires.fits;
      unless = refl;
      levels = (refl, refl);
      recorded = λ kept. led_same cs S S old old refl refl;
      grows = growth_none g.R.Recorder.keeps old (g.R.Recorder.refusals c.args.rec.now);
    }

pub loop-defect-preserved : goal.loop-defect-preserved
loop-defect-preserved g c =
    let cs = c.args.cs.now in
    let S = c.args.t.now.state in
    let R = c.loop-defect.t.state in
    let Q = c.mend.new.t.state in
    let i = c.loop-defect.invariant in
    let m : Mended cs R Q = subst (λ (b : Bool). MatchBool b (IsNarrower cs R Q) (NoneInside cs R × (Q ≡ R))) c.if-not-branch.false c.in_ok-mend.ensures.mended in
    record {
      going = going_on cs S R Q i.going m.0;
      unless = unless_on c.loop-defect.changed cs S R Q i.unless m;
      levels = (c.mend.ensures.levels.0 ∙ i.levels.0, c.mend.ensures.levels.1 ∙ i.levels.1);
      recorded = λ kept.
          let old = g.R.Recorder.list c.args.rec.now in
          let mid = g.R.Recorder.list c.loop-defect.rec in
          let end = g.R.Recorder.list c.mend.new.rec in
          led_on cs S R Q old mid end (i.recorded kept) (subst (λ (b : Bool). MatchBool b (IsLed cs R Q mid end) (IsClosed cs R mid end)) c.if-not-branch.false (c.in_ok-mend.ensures.record kept));
      grows = growth_on i.grows c.in_ok-mend.ensures.grows;
    }

pub returns-then-not-branch-clause-record : goal.returns-then-not-branch-clause-record
returns-then-not-branch-clause-record g c = λ kept.
    let cs = c.args.cs.now in
    let R = c.loop-defect.t.state in
    let old = g.R.Recorder.list c.args.rec.now in
    let mid = g.R.Recorder.list c.loop-defect.rec in
    let end = g.R.Recorder.list c.mend.new.rec in
    led_closed cs c.args.t.now.state R old mid end (c.loop-defect.invariant.recorded kept) (subst (λ (b : Bool). MatchBool b (IsLed cs R c.mend.new.t.state mid end) (IsClosed cs R mid end)) c.if-not-branch.true (c.in_ok-mend.ensures.record kept))

pub returns-else-changed-clause-repairs : goal.returns-else-changed-clause-repairs
returns-else-changed-clause-repairs g c =
    let cs = c.args.cs.now in
    let same : c.loop-defect.t.state ≡ c.args.t.now.state = subst (λ (b : Bool). Unless b cs c.args.t.now.state c.loop-defect.t.state) c.if-changed.false c.loop-defect.invariant.unless in
    let fine : ObjectFine cs c.state.result.now c.args.o.0 = subst (λ (a : Option Defect). MatchOption a (ObjectFine cs c.state.result.now c.args.o.0) (IsDefect cs c.state.result.now)) c.in_default.is c.object_defect.ensures in
    (same, subst (λ (S : State). ObjectFine cs S c.args.o.0) (c.state.ensures.value ∙ same) fine)

pub returns-in_err-mend-clause-grows : goal.returns-in_err-mend-clause-grows
returns-in_err-mend-clause-grows g c = growth_failed (growth_on c.loop-defect.invariant.grows c.in_err-mend.ensures.grows) _ c.from_residual.ensures.0

pub returns-then-not-branch-clause-grows : goal.returns-then-not-branch-clause-grows
returns-then-not-branch-clause-grows g c = growth_on c.loop-defect.invariant.grows c.in_ok-mend.ensures.grows

pub returns-then-changed-clause-grows : goal.returns-then-changed-clause-grows
returns-then-changed-clause-grows g c = c.loop-defect.invariant.grows

pub returns-else-changed-clause-grows : goal.returns-else-changed-clause-grows
returns-else-changed-clause-grows g c = c.loop-defect.invariant.grows

pub loop-defect-smaller : goal.loop-defect-smaller
loop-defect-smaller g c =
    let cs = c.args.cs.now in
    let R = c.loop-defect.t.state in
    let Q = c.mend.new.t.state in
    let m : Mended cs R Q = subst (λ (b : Bool). MatchBool b (IsNarrower cs R Q) (NoneInside cs R × (Q ≡ R))) c.if-not-branch.false c.in_ok-mend.ensures.mended in
    m.1

pub returns-then-not-branch-clause-repairs : goal.returns-then-not-branch-clause-repairs
returns-then-not-branch-clause-repairs g c =
    let cs = c.args.cs.now in
    let S = c.args.t.now.state in
    let R = c.loop-defect.t.state in
    let Q = c.mend.new.t.state in
    let n : NoneInside cs R × (Q ≡ R) = subst (λ (b : Bool). MatchBool b (IsNarrower cs R Q) (NoneInside cs R × (Q ≡ R))) c.if-not-branch.true c.in_ok-mend.ensures.mended in
    gone_dead cs S R Q c.loop-defect.invariant.going n.0 (subst (λ (T : State). Inside T R) (sym n.1) (inside_self R))

pub returns-then-changed-clause-repairs : goal.returns-then-changed-clause-repairs
returns-then-changed-clause-repairs g c = subst (λ (b : Bool). Unless b c.args.cs.now c.args.t.now.state c.loop-defect.t.state) c.if-changed.true c.loop-defect.invariant.unless

pub returns-then-changed-clause-inside : goal.returns-then-changed-clause-inside
returns-then-changed-clause-inside g c = c.loop-defect.invariant.going.keeps.inside

pub returns-else-changed-clause-inside : goal.returns-else-changed-clause-inside
returns-else-changed-clause-inside g c = c.loop-defect.invariant.going.keeps.inside
