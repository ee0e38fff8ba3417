use Rattle.std.proofs.Common.{◌≡◌, ◌+◌, ◌<◌, true, false, map, length, set, ap, sym, ◌∙◌, subst, arith, rules, List, ℤ}
use Rattle.geo_conditions.specs.Conditions.{AllFit}
use Rattle.geo_conditions.specs.Reach.{State, reach, has, without}
use Rattle.geo_conditions.specs.Supported.{HasNoPoint}
use Rattle.geo_state.specs.Trail.{Trail, HasSmallIntervals}
use Rattle.geo_state.proofs.Fits.{all_fit}
use Rattle.sweep.specs.Picks.{picked}
use Rattle.object_pruning.specs.Kept.{AllSupport}
use Rattle.object_pruning.specs.Pruning.{CanBe}
use Rattle.derivation.specs.Chains.{IsLed}
use Rattle.object_pruning.proofs.Cases.{from_true, from_false}
use Rattle.object_pruning.proofs.Ends.{drops_there, drops_gone, drops_absent, drops_as, drops_end}
use Rattle.derivation.proofs.Chains.{led_same, led_on}
use Rattle.object_pruning.proofs.Supports.{supports_as, supports_set}
use Rattle.derivation.proofs.Continuing.{growth_as, growth_on, growth_failed}
use Rattle.object_pruning.proofs.places.drop_places.Goals as goal
use Rattle.object_pruning.proofs.places.drop_places.Goals.{then-has_shape+in_ok-has_point+then-branch, then-has_shape+in_ok-has_point+else-branch, else-has_shape}

pub has_point-requires : goal.has_point-requires
has_point-requires g c =
    let cs = picked (map g.I.Indexical.cond c.args.list.now) c.args.picks.now in
    let R = c.state-state.result.now in
    let T = c.loop-before.t.state in
    let o = c.args.o.0 in
    let i = c.loop-before.invariant in
    let e : R ≡ T = c.state-state.ensures.value in
    let fits : AllFit (map g.I.Indexical.cond c.args.list.now) R = subst (AllFit (map g.I.Indexical.cond c.args.list.now)) (sym e) (all_fit _ c.args.t.now.state T i.drops.inside c.requires.fits) in
    let object : o < length R = omega (arith, ap length e, i.drops.inside.objects, c.requires.object) in
    let there : has R o (c.loop-before.before + 1) ≡ true = sym c.has_shape.ensures ∙ c.if-has_shape.true in
    let small : HasSmallIntervals R = subst HasSmallIntervals (sym e) c.state-state.ensures.small in
    let kept : AllSupport cs R o c.loop-before.kept = subst (λ (X : State). AllSupport cs X o c.loop-before.kept) (sym e) i.kept in
    search rules

pub loop-before-preserved : goal.loop-before-preserved
loop-before-preserved g c =
    let all = map g.I.Indexical.cond c.args.list.now in
    let cs = picked all c.args.picks.now in
    let S = c.args.t.now.state in
    let R = c.state-state.result.now in
    let T = c.loop-before.t.state in
    let U = c.if-has_shape.t.state in
    let o = c.args.o.0 in
    let n = c.loop-before.before + 1 in
    let i = c.loop-before.invariant in
    let list = g.R.Recorder.list in
    let old = list c.args.rec.now in
    let mid = list c.loop-before.rec in
    let new = list c.if-has_shape.rec in
    let e : R ≡ T = c.state-state.ensures.value in
    let object : o < length T = omega (arith, i.drops.inside.objects, c.requires.object) in
    elim c.if-has_shape.branch [
      | then-has_shape+in_ok-has_point+then-branch w ↦
          let q : U ≡ T = ap (λ (x : Trail). x.state) w.t-is in
          let b = w.in_ok-has_point.field-0 in
          let y : (p : List ℤ) × CanBe cs R o n p = from_true _ _ b w.if-branch.true w.in_ok-has_point.ensures.point in
          let z : CanBe cs T o n y.0 = subst (λ (X : State). CanBe cs X o n y.0) e y.1 in
          record {
            drops = drops_as cs o (n + 1) S true c.if-has_shape.some c.loop-before.dropped c.if-has_shape.dropped T U w.some-is w.dropped-is q
                (drops_there cs o n S c.loop-before.some c.loop-before.dropped T y.0 i.drops z);
            led = λ kept.
                let stays : list w.has_point.new.rec ≡ mid = from_true _ _ b w.if-branch.true (w.in_ok-has_point.ensures.led kept) in
                led_on all S T U old mid new (i.led kept) (led_same all T U mid new q (ap list w.rec-is ∙ stays));
            kept = supports_as cs R U o w.has_point.new.kept c.if-has_shape.kept (q ∙ sym e) w.kept-is w.has_point.ensures.kept;
            levels = ap (λ (x : Trail). x.levels) w.t-is ∙ i.levels;
            restores = ap (λ (x : Trail). x.restores) w.t-is ∙ i.restores;
            grows = growth_as (growth_on i.grows w.in_ok-has_point.ensures.grows) (ap list w.rec-is) (ap g.R.Recorder.refusals w.rec-is);
          }
      | then-has_shape+in_ok-has_point+else-branch w ↦
          let V = w.drop_shape.new.self.state in
          let q : U ≡ V = ap (λ (x : Trail). x.state) w.t-is in
          let b = w.in_ok-has_point.field-0 in
          let t : has T o n ≡ true = subst (λ (X : State). has X o n ≡ true) e (sym c.has_shape.ensures ∙ w.if-has_shape.true) in
          let absent : HasNoPoint cs R o n (reach R o).region = from_false _ _ b w.if-branch.false w.in_ok-has_point.ensures.point in
          let none : HasNoPoint cs T o n (reach T o).region = subst (λ (X : State). HasNoPoint cs X o n (reach X o).region) e absent in
          let kept : AllSupport cs T o w.has_point.new.kept = subst (λ (X : State). AllSupport cs X o w.has_point.new.kept) e w.has_point.ensures.kept in
          record {
            drops = drops_as cs o (n + 1) S c.loop-before.some c.if-has_shape.some true c.if-has_shape.dropped V U w.some-is w.dropped-is q
                (drops_gone cs o n S c.loop-before.some c.loop-before.dropped T V object (omega arith) i.drops t none w.drop_shape.ensures.state);
            led = λ keeps.
                let later = list w.has_point.new.rec in
                let at_R : IsLed all R (set R o (without (reach R o) n)) mid later = from_false _ _ b w.if-branch.false (w.in_ok-has_point.ensures.led keeps) in
                let at_T : IsLed all T (set T o (without (reach T o) n)) mid later = subst (λ (X : State). IsLed all X (set X o (without (reach X o) n)) mid later) e at_R in
                let to_U : IsLed all T U mid later = subst (λ (X : State). IsLed all T X mid later) (sym (q ∙ w.drop_shape.ensures.state)) at_T in
                led_on all S T U old mid new (i.led keeps) (subst (IsLed all T U mid) (sym (ap list w.rec-is)) to_U);
            kept = supports_as cs V U o w.has_point.new.kept c.if-has_shape.kept q w.kept-is (supports_set cs T V o (without (reach T o) n) w.has_point.new.kept object w.drop_shape.ensures.state kept);
            levels = ap (λ (x : Trail). x.levels) w.t-is ∙ w.drop_shape.ensures.levels ∙ i.levels;
            restores = ap (λ (x : Trail). x.restores) w.t-is ∙ w.drop_shape.ensures.restores ∙ i.restores;
            grows = growth_as (growth_on i.grows w.in_ok-has_point.ensures.grows) (ap list w.rec-is) (ap g.R.Recorder.refusals w.rec-is);
          }
      | else-has_shape w ↦
          let q : U ≡ T = ap (λ (x : Trail). x.state) w.t-is in
          let f : has T o n ≡ false = subst (λ (X : State). has X o n ≡ false) e (sym c.has_shape.ensures ∙ w.if-has_shape.false) in
          record {
            drops = drops_as cs o (n + 1) S c.loop-before.some c.if-has_shape.some c.loop-before.dropped c.if-has_shape.dropped T U w.some-is w.dropped-is q
                (drops_absent cs o n S c.loop-before.some c.loop-before.dropped T i.drops f);
            led = λ kept. led_on all S T U old mid new (i.led kept) (led_same all T U mid new q (ap list w.rec-is));
            kept = supports_as cs T U o c.loop-before.kept c.if-has_shape.kept q w.kept-is i.kept;
            levels = ap (λ (x : Trail). x.levels) w.t-is ∙ i.levels;
            restores = ap (λ (x : Trail). x.restores) w.t-is ∙ i.restores;
            grows = growth_as i.grows (ap list w.rec-is) (ap g.R.Recorder.refusals w.rec-is);
          }
    ]

pub returns-clause-drops : goal.returns-clause-drops
returns-clause-drops g c =
    let cs = picked (map g.I.Indexical.cond c.args.list.now) c.args.picks.now in
    let S = c.args.t.now.state in
    let o = c.args.o.0 in
    drops_end cs o (c.loop-before.before + 1) S c.loop-before.some c.loop-before.dropped c.loop-before.t.state
    (λ s h. omega (arith, c.last_place-last.ensures.last s (subst (λ (X : State). has X o s ≡ true) (sym c.state-start.ensures.value) h), c.loop-before-test.false))
    c.loop-before.invariant.drops

pub returns-in_err-has_point-clause-grows : goal.returns-in_err-has_point-clause-grows
returns-in_err-has_point-clause-grows g c = growth_failed (growth_on c.loop-before.invariant.grows c.in_err-has_point.ensures.grows) _ c.from_residual.ensures.0

pub returns-clause-grows : goal.returns-clause-grows
returns-clause-grows g c = c.loop-before.invariant.grows
