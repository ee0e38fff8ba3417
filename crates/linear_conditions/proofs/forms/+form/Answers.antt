use Rattle.std.proofs.Common.{◌<◌, ◌^◌, rules, sym, ap, ◌∙◌, arith}
use Rattle.rule_values.specs.View.{env_view}
use Rattle.linear_conditions.specs.Forms.{sum_fits, sum_step}
use Rattle.linear_conditions.specs.Views.{atom_view, fixings_view, wide_view}
use Rattle.linear_conditions.proofs.FormSteps.{can-negate, sums-init, sums-room, sums-step, view-field}
use Rattle.linear_conditions.proofs.forms.+form.Goals as goal
use Rattle.linear_conditions.proofs.forms.+form.Goals.{sum-in-Plus-Field+in_ok-atom-in-Plus-Field+in_ok-add_atom-in-Plus-Field, sum-in_default+in_ok-part-in_default+in_ok-add_part-in_default}

pub negative-scaled-requires : goal.negative-scaled-requires
negative-scaled-requires t c = can-negate (wide_view c.in_ok-f.f) c.in_ok-f.ensures.2

pub sum-loop-step-init : goal.sum-loop-step-init
sum-loop-step-init t c = sums-init c.args.problem.now (env_view c.args.env.now) (fixings_view c.args.fixings.now) (wide_view c.args.first) c.args.steps.now c.requires.fits

pub sum-add_atom-requires : goal.sum-add_atom-requires
sum-add_atom-requires t c =
    let p = c.args.problem.now in
    let env = env_view c.args.env.now in
    let fix = fixings_view c.args.fixings.now in
    let few : c.loop-step.step-index < 2 ^ 64 = omega arith in
    sums-room c.args.problem.now (env_view c.args.env.now) (fixings_view c.args.fixings.now) (wide_view c.args.first) c.args.steps.now c.loop-step.step-index (wide_view c.loop-step.total) (atom_view c.in_ok-atom-in-Plus-Field.atom) c.step-item.result
    c.loop-step.invariant c.loop-step-test.true few c.step-item.is
    (c.in_ok-atom-in-Plus-Field.ensures.0 ∙ ap (λ s. sum_step p s env fix) (sym (view-field c.step-item.result c.in-Plus-Field.field-0 c.in-Plus-Field.of c.in-Plus-Field.name c.in-Plus-Field.is (search rules))))
    (ap (λ s. sum_fits p s env fix) (view-field c.step-item.result c.in-Plus-Field.field-0 c.in-Plus-Field.of c.in-Plus-Field.name c.in-Plus-Field.is (search rules)) ∙ c.in_ok-atom-in-Plus-Field.ensures.1)

pub sum-add_part-requires : goal.sum-add_part-requires
sum-add_part-requires t c =
    let few : c.loop-step.step-index < 2 ^ 64 = omega arith in
    sums-room c.args.problem.now (env_view c.args.env.now) (fixings_view c.args.fixings.now) (wide_view c.args.first) c.args.steps.now c.loop-step.step-index (wide_view c.loop-step.total) (wide_view c.in_ok-part-in_default.part) c.step-item.result
    c.loop-step.invariant c.loop-step-test.true few c.step-item.is c.in_ok-part-in_default.ensures.0 c.in_ok-part-in_default.ensures.1

pub sum-loop-step-preserved : goal.sum-loop-step-preserved
sum-loop-step-preserved t c =
    let p = c.args.problem.now in
    let env = env_view c.args.env.now in
    let fix = fixings_view c.args.fixings.now in
    let few : c.loop-step.step-index < 2 ^ 64 = omega arith in
    elim c.match-step.branch [
      | sum-in-Plus-Field+in_ok-atom-in-Plus-Field+in_ok-add_atom-in-Plus-Field w ↦
          sums-step c.args.problem.now (env_view c.args.env.now) (fixings_view c.args.fixings.now) (wide_view c.args.first) c.args.steps.now c.loop-step.step-index (wide_view c.loop-step.total) (atom_view w.in_ok-atom-in-Plus-Field.atom) c.step-item.result
          c.loop-step.invariant c.loop-step-test.true few c.step-item.is
          (w.in_ok-atom-in-Plus-Field.ensures.0 ∙ ap (λ s. sum_step p s env fix) (sym (view-field c.step-item.result w.in-Plus-Field.field-0 w.in-Plus-Field.of w.in-Plus-Field.name w.in-Plus-Field.is (search rules))))
          (ap (λ s. sum_fits p s env fix) (view-field c.step-item.result w.in-Plus-Field.field-0 w.in-Plus-Field.of w.in-Plus-Field.name w.in-Plus-Field.is (search rules)) ∙ w.in_ok-atom-in-Plus-Field.ensures.1)
          (wide_view c.match-step.total) (ap wide_view w.total-is ∙ w.in_ok-add_atom-in-Plus-Field.ensures)
      | sum-in_default+in_ok-part-in_default+in_ok-add_part-in_default w ↦
          sums-step c.args.problem.now (env_view c.args.env.now) (fixings_view c.args.fixings.now) (wide_view c.args.first) c.args.steps.now c.loop-step.step-index (wide_view c.loop-step.total) (wide_view w.in_ok-part-in_default.part) c.step-item.result
          c.loop-step.invariant c.loop-step-test.true few c.step-item.is w.in_ok-part-in_default.ensures.0 w.in_ok-part-in_default.ensures.1
          (wide_view c.match-step.total) (ap wide_view w.total-is ∙ w.in_ok-add_part-in_default.ensures)
    ]
