use Rattle.std.proofs.Common.{◌≡◌, ◌<◌, Bool, true, ap, sym, ◌∙◌, subst, arith, length, refl}
use Rattle.std.proofs.lemmas.Bool.{false≢true}
use Rattle.geo_conditions.specs.Walk.{object_of}
use Rattle.derivation.proofs.Continuing.{growth_none, growth_on, growth_err, growth_succeeded}
use Rattle.geo_state.proofs.Numbers.{kept64}
use Rattle.trail_search.specs.Variables.{variable_of}
use Rattle.trail_search.specs.Cursor.{HasDimension, IsValueOf}
use Rattle.trail_search.specs.Walker.{depth}
use Rattle.trail_search.proofs.Walking.{object_at, fact_at}
use Rattle.trail_search.proofs.Loop.{loop_start, loop_dead, loop_ended, loop_budget, loop_visit, loop_found, measure_visit, dead_as, kept_as}
use Rattle.std.specs.Prelude.{MatchBool}
use Rattle.trail_search.specs.Record.{IsRecord, IsClosedRecord, RecordsCases}
use Rattle.trail_search.proofs.Recording.{kept_record, dead_record, cases_of, record_end}
use Rattle.trail_search.proofs.walk.walk.Goals as goal

pub loop-walker-init : goal.loop-walker-init
loop-walker-init g c = (loop_start g.row.K (g.P.Propagate.conditions c.args.prop.now) c.args.budget c.args.walker.now c.requires.well c.requires.count c.requires.open, refl, refl, growth_none _ _ _, λ k t r. r)

pub returns-then-not-retreat-clause-walks : goal.returns-then-not-retreat-clause-walks
returns-then-not-retreat-clause-walks g c =
    let i = c.loop-walker.invariant in
    let cs = g.P.Propagate.conditions c.args.prop.now in
    let d = dead_as (g.P.Propagate.conditions c.loop-walker.prop) cs c.loop-walker.walker c.settle.new.self c.settle.result c.in-Ok-Dead.field-0 c.settle.ensures.settled c.in-Ok-Dead.is c.in-Ok-Dead.field-0-is i.1 in
    loop_ended g.row.K cs c.args.budget c.args.walker.now c.loop-walker.walker c.settle.new.self c.retreat.new.self i.0 d c.settle.ensures.same c.settle.ensures.walked c.retreat.ensures.well c.retreat.ensures.same c.retreat.ensures.walked (c.retreat.ensures.none c.if-not-retreat.true) (c.retreat.ensures.stuck c.if-not-retreat.true)

pub loop-walker-preserved-else-not-retreat : goal.loop-walker-preserved-else-not-retreat
loop-walker-preserved-else-not-retreat g c =
    let i = c.loop-walker.invariant in
    let cs = g.P.Propagate.conditions c.args.prop.now in
    let d = dead_as (g.P.Propagate.conditions c.loop-walker.prop) cs c.loop-walker.walker c.settle.new.self c.settle.result c.in-Ok-Dead.field-0 c.settle.ensures.settled c.in-Ok-Dead.is c.in-Ok-Dead.field-0-is i.1 in (
      loop_dead g.row.K cs c.args.budget c.args.walker.now c.loop-walker.walker c.settle.new.self c.retreat.new.self i.0 d c.settle.ensures.same c.settle.ensures.walked c.settle.ensures.depth c.retreat.ensures.well c.retreat.ensures.same c.retreat.ensures.walked (c.retreat.ensures.depth c.if-not-retreat.false) (c.retreat.ensures.searches c.if-not-retreat.false),
      c.settle.ensures.conditions ∙ i.1,
      c.settle.ensures.number ∙ i.2,
      growth_on i.3 c.in-Ok-Dead.ensures.grows,
      λ k t r.
          let closed = dead_record (g.P.Propagate.conditions c.loop-walker.prop) cs c.in-Ok-Dead.field-0 c.loop-walker.walker c.settle.new.self (g.R.Recorder.list c.loop-walker.rec) (g.R.Recorder.list c.settle.new.rec) i.1 c.in-Ok-Dead.field-0-is (c.in-Ok-Dead.ensures.record k) (i.4 k t r) in
          subst (λ (b : Bool). MatchBool b (IsRecord cs c.retreat.new.self (g.R.Recorder.list c.settle.new.rec)) (IsClosedRecord cs c.retreat.new.self (g.R.Recorder.list c.settle.new.rec))) c.if-not-retreat.false (c.retreat.ensures.record cs (g.R.Recorder.list c.settle.new.rec) closed),
    )

pub first_value-u-requires : goal.first_value-u-requires
first_value-u-requires g c =
    let i = c.loop-walker.invariant in
    let s = c.settle.new.self in
    let w = c.settle.ensures.well in
    let cs = g.P.Propagate.conditions c.args.prop.now in
    let d = kept_as (g.P.Propagate.conditions c.loop-walker.prop) cs c.loop-walker.walker s c.settle.result c.in-Ok-Kept.field-0 c.settle.ensures.settled c.in-Ok-Kept.is c.in-Ok-Kept.field-0-is i.1 in
    let n : depth s < length s.variables = omega (arith, c.settle.ensures.depth, i.0.below, ap length c.settle.ensures.same.variables) in
    let x = variable_of c.variable-x.result in
    let a = object_at s.first s.variables (depth s) x w.objects n c.variable-x.ensures in
    let o : object_of x < length s.trail.state = omega (arith, a, w.inside.objects) in
    (omega arith, (c.requires.k, (o, (fact_at (HasDimension g.row.K) s.variables (depth s) x w.dimensions n c.variable-x.ensures, d.0 (object_of x) o))))

pub record_split-requires : goal.record_split-requires
record_split-requires g c =
    let i = c.loop-walker.invariant in
    let s = c.settle.new.self in
    let w = c.settle.ensures.well in
    let n : depth s < length s.variables = omega (arith, c.settle.ensures.depth, i.0.below, ap length c.settle.ensures.same.variables) in
    let x = variable_of c.variable-x.result in
    let a = object_at s.first s.variables (depth s) x w.objects n c.variable-x.ensures in
    let o : object_of x < length s.trail.state = omega (arith, a, w.inside.objects) in
    (omega arith, (c.requires.k, (o, (fact_at (HasDimension g.row.K) s.variables (depth s) x w.dimensions n c.variable-x.ensures, subst (IsValueOf x) (sym (kept64 c.first_value-u.result c.first_value-u.type_inv)) c.first_value-u.ensures.fits))))

pub returns-then-count-budget-clause-walks : goal.returns-then-count-budget-clause-walks
returns-then-count-budget-clause-walks g c =
    let i = c.loop-walker.invariant in
    let s = c.settle.new.self in
    let cs = g.P.Propagate.conditions c.args.prop.now in
    let d = kept_as (g.P.Propagate.conditions c.loop-walker.prop) cs c.loop-walker.walker s c.settle.result c.in-Ok-Kept.field-0 c.settle.ensures.settled c.in-Ok-Kept.is c.in-Ok-Kept.field-0-is i.1 in
    let n : depth s < length s.variables = omega (arith, c.settle.ensures.depth, i.0.below, ap length c.settle.ensures.same.variables) in
    loop_budget g.row.K cs c.args.budget c.args.walker.now c.loop-walker.walker s (variable_of c.variable-x.result) c.first_value-u.result i.0 d c.settle.ensures.same c.settle.ensures.well n c.variable-x.ensures c.first_value-u.ensures.first (sym c.count.ensures ∙ c.if-count-budget.true)

pub returns-then-is_full-clause-walks : goal.returns-then-is_full-clause-walks
returns-then-is_full-clause-walks g c =
    let i = c.loop-walker.invariant in
    let s = c.settle.new.self in
    let r = c.descend.new.self in
    let cs = g.P.Propagate.conditions c.args.prop.now in
    let d = kept_as (g.P.Propagate.conditions c.loop-walker.prop) cs c.loop-walker.walker s c.settle.result c.in-Ok-Kept.field-0 c.settle.ensures.settled c.in-Ok-Kept.is c.in-Ok-Kept.field-0-is i.1 in
    loop_found g.row.K cs c.args.budget c.args.walker.now c.loop-walker.walker s r _ i.0 d c.settle.ensures.same c.settle.ensures.walked (λ e. c.if-count-budget.false (c.count.ensures ∙ e)) c.descend.ensures.same c.descend.ensures.walked c.descend.ensures.path (c.is_full.ensures.0 c.if-is_full.true) c.descend.ensures.searches

pub loop-walker-smaller : goal.loop-walker-smaller
loop-walker-smaller g c =
    let i = c.loop-walker.invariant in
    measure_visit c.args.budget c.loop-walker.walker c.settle.new.self c.descend.new.self c.settle.ensures.same c.descend.ensures.same c.settle.ensures.walked c.descend.ensures.walked (omega (arith, i.0.count, c.settle.ensures.walked, c.count.ensures, c.if-count-budget.false)) c.settle.ensures.depth c.descend.ensures.depth

pub loop-walker-preserved : goal.loop-walker-preserved
loop-walker-preserved g c =
    let i = c.loop-walker.invariant in
    let s = c.settle.new.self in
    let r = c.descend.new.self in
    let cs = g.P.Propagate.conditions c.args.prop.now in
    let d = kept_as (g.P.Propagate.conditions c.loop-walker.prop) cs c.loop-walker.walker s c.settle.result c.in-Ok-Kept.field-0 c.settle.ensures.settled c.in-Ok-Kept.is c.in-Ok-Kept.field-0-is i.1 in (
      loop_visit g.row.K cs c.args.budget c.args.walker.now c.loop-walker.walker s r _ i.0 d c.settle.ensures.same c.settle.ensures.walked (λ e. c.if-count-budget.false (c.count.ensures ∙ e)) c.descend.ensures.well c.descend.ensures.same c.descend.ensures.walked c.descend.ensures.path (λ e. false≢true (sym c.if-is_full.false ∙ c.is_full.ensures.1 e)) c.descend.ensures.searches,
      c.settle.ensures.conditions ∙ i.1,
      c.settle.ensures.number ∙ i.2,
      growth_on (growth_on i.3 c.in-Ok-Kept.ensures.grows) (growth_succeeded _ c.record_split.ensures.grows (sym c.is_err.ensures.value ∙ c.if-is_err.false)),
      λ k t f.
          let kept = kept_record (g.P.Propagate.conditions c.loop-walker.prop) cs c.in-Ok-Kept.field-0 c.loop-walker.walker s (g.R.Recorder.list c.loop-walker.rec) (g.R.Recorder.list c.settle.new.rec) i.1 c.in-Ok-Kept.field-0-is (c.in-Ok-Kept.ensures.record k) (i.4 k t f) in
          let cases = cases_of (g.R.Recorder.keeps ≡ true → RecordsCases s.trail.state (variable_of c.variable-x.result) _ (g.R.Recorder.list c.settle.new.rec) (g.R.Recorder.list c.record_split.new.rec)) c.record_split.result c.record_split.ensures.cases (sym c.is_err.ensures.value ∙ c.if-is_err.false) k in
          c.descend.ensures.record (c.settle.ensures.same.token ∙ i.0.same.token ∙ t) cs (g.R.Recorder.list c.settle.new.rec) (g.R.Recorder.list c.record_split.new.rec) cases kept,
    )

pub returns-in-Err-clause-grows : goal.returns-in-Err-clause-grows
returns-in-Err-clause-grows g c = growth_on c.loop-walker.invariant.3 c.in-Err.ensures.grows

pub returns-then-not-retreat-clause-grows : goal.returns-then-not-retreat-clause-grows
returns-then-not-retreat-clause-grows g c = growth_on c.loop-walker.invariant.3 c.in-Ok-Dead.ensures.grows

pub returns-then-count-budget-clause-grows : goal.returns-then-count-budget-clause-grows
returns-then-count-budget-clause-grows g c = growth_on c.loop-walker.invariant.3 c.in-Ok-Kept.ensures.grows

pub returns-then-is_err-clause-grows : goal.returns-then-is_err-clause-grows
returns-then-is_err-clause-grows g c = growth_on (growth_on c.loop-walker.invariant.3 c.in-Ok-Kept.ensures.grows) (growth_err _ c.record_split.ensures.grows (sym c.is_err.ensures.value ∙ c.if-is_err.true))

pub returns-then-is_full-clause-grows : goal.returns-then-is_full-clause-grows
returns-then-is_full-clause-grows g c = growth_on (growth_on c.loop-walker.invariant.3 c.in-Ok-Kept.ensures.grows) (growth_succeeded _ c.record_split.ensures.grows (sym c.is_err.ensures.value ∙ c.if-is_err.false))

pub returns-then-not-retreat-clause-recorded : goal.returns-then-not-retreat-clause-recorded
returns-then-not-retreat-clause-recorded g c = λ k t r.
    let i = c.loop-walker.invariant in
    let cs = g.P.Propagate.conditions c.args.prop.now in
    let es = g.R.Recorder.list c.settle.new.rec in
    let closed = dead_record (g.P.Propagate.conditions c.loop-walker.prop) cs c.in-Ok-Dead.field-0 c.loop-walker.walker c.settle.new.self (g.R.Recorder.list c.loop-walker.rec) es i.1 c.in-Ok-Dead.field-0-is (c.in-Ok-Dead.ensures.record k) (i.4 k t r) in
    let left = subst (λ (b : Bool). MatchBool b (IsRecord cs c.retreat.new.self es) (IsClosedRecord cs c.retreat.new.self es)) c.if-not-retreat.true (c.retreat.ensures.record cs es closed) in
    record_end cs c.retreat.new.self es (c.retreat.ensures.none c.if-not-retreat.true) left

pub returns-then-count-budget-clause-recorded : goal.returns-then-count-budget-clause-recorded
returns-then-count-budget-clause-recorded g c = λ k t r.
    let i = c.loop-walker.invariant in
    let cs = g.P.Propagate.conditions c.args.prop.now in
    kept_record (g.P.Propagate.conditions c.loop-walker.prop) cs c.in-Ok-Kept.field-0 c.loop-walker.walker c.settle.new.self (g.R.Recorder.list c.loop-walker.rec) (g.R.Recorder.list c.settle.new.rec) i.1 c.in-Ok-Kept.field-0-is (c.in-Ok-Kept.ensures.record k) (i.4 k t r)

pub returns-then-is_full-clause-recorded : goal.returns-then-is_full-clause-recorded
returns-then-is_full-clause-recorded g c = λ k t r.
    let i = c.loop-walker.invariant in
    let s = c.settle.new.self in
    let cs = g.P.Propagate.conditions c.args.prop.now in
    let kept = kept_record (g.P.Propagate.conditions c.loop-walker.prop) cs c.in-Ok-Kept.field-0 c.loop-walker.walker s (g.R.Recorder.list c.loop-walker.rec) (g.R.Recorder.list c.settle.new.rec) i.1 c.in-Ok-Kept.field-0-is (c.in-Ok-Kept.ensures.record k) (i.4 k t r) in
    let cases = cases_of (g.R.Recorder.keeps ≡ true → RecordsCases s.trail.state (variable_of c.variable-x.result) _ (g.R.Recorder.list c.settle.new.rec) (g.R.Recorder.list c.record_split.new.rec)) c.record_split.result c.record_split.ensures.cases (sym c.is_err.ensures.value ∙ c.if-is_err.false) k in
    c.descend.ensures.record (c.settle.ensures.same.token ∙ i.0.same.token ∙ t) cs (g.R.Recorder.list c.settle.new.rec) (g.R.Recorder.list c.record_split.new.rec) cases kept
