use Rattle.std.proofs.Common.{List, [], ◌∷◌, ◌++◌, map, sym, ap, ◌∙◌}
use Rattle.std.specs.Prelude.{⊤}
use Rattle.linear_conditions.specs.CondTree.{CondTree, shape_is, cond_view}
use Rattle.linear_conditions.specs.Counts.{one_leaf, within_limits}
use Rattle.linear_conditions.specs.declared.fault.GroundFault.{GroundFault}
use Rattle.linear_conditions.proofs.CounterSteps.{past-fault}
use Rattle.rule_ground.specs.Grounding.{add_absence}
use Rattle.rule_ground.proofs.Behind.{both_ways, free, pushed}
use Rattle.rule_ground.proofs.Arms.{absence-made, absence-fault}
use Rattle.rule_ground.proofs.optional.add_absence.Goals as goal

pub returns-in-Err : goal.returns-in-Err
returns-in-Err c =
    absence-fault c.args.problem.now c.args.manner c.args.object.0 (map cond_view c.args.parts.now.items) c.args.counter.now
    (sym c.absent_truth.ensures ∙ c.if-absent_truth.true) (sym c.may_be_absent.ensures ∙ c.if-may_be_absent.true)
    c.in-Err.e (past-fault (within_limits (one_leaf c.args.counter.now)) c.in-Err.e c.in-Err.ensures)

pub returns-then-may_be_absent : goal.returns-then-may_be_absent
returns-then-may_be_absent c =
    let p = c.args.problem.now in
    let o = c.args.object.0 in
    let old = c.args.parts.now.items in
    both_ways ⊤ GroundFault c.add_cond.result _ _ _ _ c.add_cond.ensures
    (λ u v. absence-made p c.args.manner o (map cond_view old) c.args.counter.now
    (sym c.absent_truth.ensures ∙ c.if-absent_truth.true) (sym c.may_be_absent.ensures ∙ c.if-may_be_absent.true)
    _ c.add_leaves.new.self c.in_default.ensures
    (pushed old c.add_cond.new.parts.items _ v ∙ ap (λ s. map cond_view old ++ (shape_is o s ∷ [])) c.absent_place-place.ensures))
    (λ e v. free (List CondTree) (add_absence p c.args.manner o (map cond_view old) c.args.counter.now) e v)
