use Rattle.std.proofs.Common.{◌≡◌, ℕ, ◌+◌, List, [], ◌∷◌, drop, map, not, cond, true, false, sym, ap, ◌∙◌, arith, subst}
use Rattle.std.proofs.lemmas.Result.{err_from_is_err_and}
use Rattle.linear_conditions.specs.CondTree.{cond_view, CondTree}
use Rattle.linear_conditions.specs.Counts.{Counts, Outcome, one_leaf, one_visit, visit, within_limits}
use Rattle.linear_conditions.specs.Faults.{IsFault}
use Rattle.linear_conditions.specs.Folding.{joined}
use Rattle.linear_conditions.specs.Views.{fixings_view}
use Rattle.std.specs.Prelude.{MatchResult}
use Rattle.linear_conditions.specs.declared.fault.GroundFault.TheVariants.{Memory}
use Rattle.problem_data.specs.Places.{absent_place}
use Rattle.problem_data.specs.Tuple.{object_of}
use Rattle.problem_data.specs.Value.{Object}
use Rattle.rule_expand.specs.Plain.{implication}
use Rattle.rule_expand.specs.PlainView.{plain_coll_view, plain_formula_view, plain_formulas_view}
use Rattle.rule_values.specs.Elements.{elements_view}
use Rattle.rule_values.specs.View.{env_view, thing_view}
use Rattle.rule_ground.specs.Answers.{behind, busy, Appends, AppendsBusy, Gives, IsRow, body_at, element_view}
use Rattle.rule_ground.specs.Grounding.{Element, element_of, ground as grounded, alone, in_turn, add_absence, ground_element, ground_elements, ground_gone, ground_group, ground_operands, ground_optional, ground_place, ground_places, ground_split, ground_whole, optional_child, shape_child}
use Rattle.rule_ground.specs.Shapes.{shape_places}
use Rattle.rule_ground.proofs.Behind.{then-done, then-fault, behind-init, fault-behind, alone-fault, appended, turn-stop, turn-done, turn-fault, turn-late, walk-init, walk-stop, walk-step, walk-fault, walk-end, gather-walk, gather-failed, gather-over, both_ways, free}
use Rattle.rule_ground.proofs.Arms.{gives-made, step-gives, step-fault, operand-size, elements-at, elements-over, place-at, places-over, appends-child, gathered, gathered-fault}
use Rattle.rule_ground.proofs.Busy.{busied, busy-failed, busy-over, busy-walk}
use Rattle.rule_ground.proofs.Quantified.{quantified-made, quantified-fault}
use Rattle.rule_ground.proofs.Chains.{env-more, fixings-more, view-implies}
use Rattle.linear_conditions.specs.declared.fixings.Fixings.TheVariants as chain
use Rattle.rule_values.specs.declared.env.Env.TheVariants as envs
use Rattle.rule_values.specs.declared.env.Thing.TheVariants as things
use Rattle.linear_conditions.proofs.CounterSteps.{past-fault}
use Rattle.rule_ground.proofs.formulas.+ground.Goals as goal

pub ground-returns-in-Implies : goal.ground-returns-in-Implies
ground-returns-in-Implies t c =
    subst (λ f. Gives (grounded c.args.problem.now f c.args.sign (env_view c.args.env.now) (fixings_view c.args.fixings.now) c.args.counter.now) c.ground_pair.new.counter c.ground_pair.result)
    (sym (ap plain_formula_view c.in-Implies.is ∙ view-implies c.in-Implies.f c.in-Implies.g
    ∙ (λ i. implication (plain_formula_view (sym c.deref-in-Implies.ensures i)) (plain_formula_view (sym c.deref-in-Implies-2.ensures i)))))
    c.ground_pair.ensures

pub ground_all_of-returns-in-Ok : goal.ground_all_of-returns-in-Ok
ground_all_of-returns-in-Ok t c =
    gives-made (List CondTree) (ground_operands c.args.problem.now (plain_formulas_view c.args.fs.now) c.args.sign c.args.sign (env_view c.args.env.now) (fixings_view c.args.fixings.now) c.args.counter.now)
    (joined c.args.sign) (map cond_view c.in-Ok.parts.items) c.ground_operands.new.counter c.join.result c.in-Ok.ensures c.join.ensures

pub ground_all_of-returns-in-Err : goal.ground_all_of-returns-in-Err
ground_all_of-returns-in-Err t c =
    then-fault (List CondTree) CondTree (ground_operands c.args.problem.now (plain_formulas_view c.args.fs.now) c.args.sign c.args.sign (env_view c.args.env.now) (fixings_view c.args.fixings.now) c.args.counter.now)
    _ c.in-Err.e c.in-Err.ensures

pub ground_any_of-returns-in-Ok : goal.ground_any_of-returns-in-Ok
ground_any_of-returns-in-Ok t c =
    gives-made (List CondTree) (ground_operands c.args.problem.now (plain_formulas_view c.args.fs.now) (not c.args.sign) c.args.sign (env_view c.args.env.now) (fixings_view c.args.fixings.now) c.args.counter.now)
    (joined (not c.args.sign)) (map cond_view c.in-Ok.parts.items) c.ground_operands.new.counter c.join.result c.in-Ok.ensures c.join.ensures

pub ground_any_of-returns-in-Err : goal.ground_any_of-returns-in-Err
ground_any_of-returns-in-Err t c =
    then-fault (List CondTree) CondTree (ground_operands c.args.problem.now (plain_formulas_view c.args.fs.now) (not c.args.sign) c.args.sign (env_view c.args.env.now) (fixings_view c.args.fixings.now) c.args.counter.now)
    _ c.in-Err.e c.in-Err.ensures

pub ground_element-returns-in-Whole : goal.ground_element-returns-in-Whole
ground_element-returns-in-Whole t c =
    let body = body_at c.args.problem.now c.args.site.now in
    let fix = fixings_view c.args.fixings.now in
    let e : ground_element c.args.problem.now body c.args.manner fix (element_view c.args.element) c.args.counter.now ≡ alone (ground_whole body fix (thing_view c.in-Whole.thing) c.args.counter.now) =
    ap (λ x. ground_element c.args.problem.now body c.args.manner fix (element_view x) c.args.counter.now) c.in-Whole.is in
    subst (λ u. AppendsBusy c.args.manner u c.args.children.now.items c.ground_whole.new.children.items c.ground_whole.new.counter c.ground_whole.result) (sym e) c.ground_whole.ensures

pub ground_element-returns-in-Optional : goal.ground_element-returns-in-Optional
ground_element-returns-in-Optional t c =
    let body = body_at c.args.problem.now c.args.site.now in
    let fix = fixings_view c.args.fixings.now in
    let e : ground_element c.args.problem.now body c.args.manner fix (element_view c.args.element) c.args.counter.now ≡ alone (ground_optional c.args.problem.now body c.args.manner fix c.in-Optional.object.0 c.args.counter.now) =
    ap (λ x. ground_element c.args.problem.now body c.args.manner fix (element_view x) c.args.counter.now) c.in-Optional.is in
    subst (λ u. AppendsBusy c.args.manner u c.args.children.now.items c.add_child.new.parts.items c.ground_optional-child.new.counter c.add_child.result) (sym e)
    (busied c.args.manner c.args.children.now.items c.add_child.new.parts.items _ c.ground_optional-child.new.counter c.add_child.result (appends-child c.args.children.now.items c.add_child.new.parts.items _ c.ground_optional-child.new.counter c.ground_optional-child.result c.add_child.result c.ground_optional-child.ensures c.add_child.ensures))

pub ground_element-returns-in-Gone : goal.ground_element-returns-in-Gone
ground_element-returns-in-Gone t c =
    let body = body_at c.args.problem.now c.args.site.now in
    let fix = fixings_view c.args.fixings.now in
    let e : ground_element c.args.problem.now body c.args.manner fix (element_view c.args.element) c.args.counter.now ≡ alone (ground_gone c.args.manner c.args.counter.now) =
    ap (λ x. ground_element c.args.problem.now body c.args.manner fix (element_view x) c.args.counter.now) c.in-Gone.is in
    subst (λ u. AppendsBusy c.args.manner u c.args.children.now.items c.add_child-in-Gone.new.parts.items c.ground_gone.new.counter c.add_child-in-Gone.result) (sym e)
    (busied c.args.manner c.args.children.now.items c.add_child-in-Gone.new.parts.items _ c.ground_gone.new.counter c.add_child-in-Gone.result (appends-child c.args.children.now.items c.add_child-in-Gone.new.parts.items _ c.ground_gone.new.counter c.ground_gone.result c.add_child-in-Gone.result c.ground_gone.ensures c.add_child-in-Gone.ensures))

pub ground_element-returns-in-Split : goal.ground_element-returns-in-Split
ground_element-returns-in-Split t c =
    let body = body_at c.args.problem.now c.args.site.now in
    let fix = fixings_view c.args.fixings.now in
    let e : ground_element c.args.problem.now body c.args.manner fix (element_view c.args.element) c.args.counter.now ≡ ground_split c.args.problem.now body c.args.manner fix c.in-Split.object.0 c.args.counter.now =
    ap (λ x. ground_element c.args.problem.now body c.args.manner fix (element_view x) c.args.counter.now) c.in-Split.is in
    subst (λ u. AppendsBusy c.args.manner u c.args.children.now.items c.ground_split.new.children.items c.ground_split.new.counter c.ground_split.result) (sym e)
    (busied c.args.manner c.args.children.now.items c.ground_split.new.children.items _ c.ground_split.new.counter c.ground_split.result c.ground_split.ensures)

pub ground_elements-loop-i-init : goal.ground_elements-loop-i-init
ground_elements-loop-i-init t c = ap (busy c.args.manner) (walk-init c.args.problem.now true true [] [] _ c.new-children.result.items c.new-children.ensures.items)

pub ground_elements-returns-in-Err : goal.ground_elements-returns-in-Err
ground_elements-returns-in-Err t c =
    busy-failed Element c.args.manner (ground_element c.args.problem.now (body_at c.args.problem.now c.args.site.now) c.args.manner (fixings_view c.args.fixings.now))
    (ground_elements c.args.problem.now (body_at c.args.problem.now c.args.site.now) c.args.manner (fixings_view c.args.fixings.now) (map (element_of c.args.problem.now c.args.asked (fixings_view c.args.fixings.now)) (elements_view c.args.things.now)) c.args.counter.now)
    _ _ (element_view c.element_of-element.result) c.loop-i.counter c.loop-i.children.items c.in-Err.e c.loop-i.invariant
    (elements-at (element_of c.args.problem.now c.args.asked (fixings_view c.args.fixings.now)) (elements_view c.args.things.now) c.loop-i.i (thing_view c.at.result) (element_view c.element_of-element.result) (omega (arith, c.loop-i-test.true, c.len-i-end.ensures)) c.at.ensures c.element_of-element.ensures)
    c.in-Err.ensures

pub ground_elements-loop-i-preserved : goal.ground_elements-loop-i-preserved
ground_elements-loop-i-preserved t c =
    busy-walk Element c.args.manner (ground_element c.args.problem.now (body_at c.args.problem.now c.args.site.now) c.args.manner (fixings_view c.args.fixings.now))
    (ground_elements c.args.problem.now (body_at c.args.problem.now c.args.site.now) c.args.manner (fixings_view c.args.fixings.now) (map (element_of c.args.problem.now c.args.asked (fixings_view c.args.fixings.now)) (elements_view c.args.things.now)) c.args.counter.now)
    _ _ (element_view c.element_of-element.result) c.loop-i.counter c.ground_element.new.counter c.loop-i.children.items c.ground_element.new.children.items c.loop-i.invariant
    (elements-at (element_of c.args.problem.now c.args.asked (fixings_view c.args.fixings.now)) (elements_view c.args.things.now) c.loop-i.i (thing_view c.at.result) (element_view c.element_of-element.result) (omega (arith, c.loop-i-test.true, c.len-i-end.ensures)) c.at.ensures c.element_of-element.ensures)
    c.in_default.ensures

pub ground_elements-returns : goal.ground_elements-returns
ground_elements-returns t c =
    busy-over Element c.args.manner (ground_element c.args.problem.now (body_at c.args.problem.now c.args.site.now) c.args.manner (fixings_view c.args.fixings.now))
    (ground_elements c.args.problem.now (body_at c.args.problem.now c.args.site.now) c.args.manner (fixings_view c.args.fixings.now) (map (element_of c.args.problem.now c.args.asked (fixings_view c.args.fixings.now)) (elements_view c.args.things.now)) c.args.counter.now)
    _ c.loop-i.counter c.loop-i.children.items c.loop-i.invariant
    (elements-over (element_of c.args.problem.now c.args.asked (fixings_view c.args.fixings.now)) (elements_view c.args.things.now) c.loop-i.i (omega (arith, c.loop-i-test.false, c.len-i-end.ensures)))

pub ground_equivalence-returns-in_err-first : goal.ground_equivalence-returns-in_err-first
ground_equivalence-returns-in_err-first t c =
    let r = err_from_is_err_and c.from_residual.result c.from_residual.ensures.1 in
    let first : Counts → Outcome CondTree = λ j. in_turn true (λ i. grounded c.args.problem.now (plain_formula_view c.args.f.now) true (env_view c.args.env.now) (fixings_view c.args.fixings.now) i) (λ i. grounded c.args.problem.now (plain_formula_view c.args.g.now) c.args.sign (env_view c.args.env.now) (fixings_view c.args.fixings.now) i) j in
    let second : Counts → Outcome CondTree = λ j. in_turn true (λ i. grounded c.args.problem.now (plain_formula_view c.args.f.now) false (env_view c.args.env.now) (fixings_view c.args.fixings.now) i) (λ i. grounded c.args.problem.now (plain_formula_view c.args.g.now) (not c.args.sign) (env_view c.args.env.now) (fixings_view c.args.fixings.now) i) j in
    rw (r.1, r.2) (turn-fault false first second c.args.counter.now _ c.in_err-first.ensures)

pub ground_equivalence-returns-then-decides : goal.ground_equivalence-returns-then-decides
ground_equivalence-returns-then-decides t c =
    let first : Counts → Outcome CondTree = λ j. in_turn true (λ i. grounded c.args.problem.now (plain_formula_view c.args.f.now) true (env_view c.args.env.now) (fixings_view c.args.fixings.now) i) (λ i. grounded c.args.problem.now (plain_formula_view c.args.g.now) c.args.sign (env_view c.args.env.now) (fixings_view c.args.fixings.now) i) j in
    let second : Counts → Outcome CondTree = λ j. in_turn true (λ i. grounded c.args.problem.now (plain_formula_view c.args.f.now) false (env_view c.args.env.now) (fixings_view c.args.fixings.now) i) (λ i. grounded c.args.problem.now (plain_formula_view c.args.g.now) (not c.args.sign) (env_view c.args.env.now) (fixings_view c.args.fixings.now) i) j in
    both_ways _ _ _ _ _ _ _ c.joined_one.ensures
    (λ x v. turn-stop false first second c.args.counter.now c.ground_pair.new.counter (cond_view c.in_ok-first.first) (cond_view x) c.in_ok-first.ensures (sym c.decides.ensures ∙ c.if-decides.true) v)
    (λ e v. free CondTree (in_turn false first second c.args.counter.now) e v)

pub ground_equivalence-returns : goal.ground_equivalence-returns
ground_equivalence-returns t c =
    let first : Counts → Outcome CondTree = λ j. in_turn true (λ i. grounded c.args.problem.now (plain_formula_view c.args.f.now) true (env_view c.args.env.now) (fixings_view c.args.fixings.now) i) (λ i. grounded c.args.problem.now (plain_formula_view c.args.g.now) c.args.sign (env_view c.args.env.now) (fixings_view c.args.fixings.now) i) j in
    let second : Counts → Outcome CondTree = λ j. in_turn true (λ i. grounded c.args.problem.now (plain_formula_view c.args.f.now) false (env_view c.args.env.now) (fixings_view c.args.fixings.now) i) (λ i. grounded c.args.problem.now (plain_formula_view c.args.g.now) (not c.args.sign) (env_view c.args.env.now) (fixings_view c.args.fixings.now) i) j in
    both_ways _ _ _ _ _ _ _ c.joined_two.ensures
    (λ x v. turn-done false first second c.args.counter.now c.ground_pair.new.counter c.ground_pair-2.new.counter (cond_view c.in_ok-first.first) (cond_view c.in_ok-second.second) (cond_view x) c.in_ok-first.ensures (sym c.decides.ensures ∙ c.if-decides.false) c.in_ok-second.ensures v)
    (λ e v. free CondTree (in_turn false first second c.args.counter.now) e v)

pub ground_equivalence-returns-in_err-second : goal.ground_equivalence-returns-in_err-second
ground_equivalence-returns-in_err-second t c =
    let r = err_from_is_err_and c.from_residual-in_err-second.result c.from_residual-in_err-second.ensures.1 in
    let first : Counts → Outcome CondTree = λ j. in_turn true (λ i. grounded c.args.problem.now (plain_formula_view c.args.f.now) true (env_view c.args.env.now) (fixings_view c.args.fixings.now) i) (λ i. grounded c.args.problem.now (plain_formula_view c.args.g.now) c.args.sign (env_view c.args.env.now) (fixings_view c.args.fixings.now) i) j in
    let second : Counts → Outcome CondTree = λ j. in_turn true (λ i. grounded c.args.problem.now (plain_formula_view c.args.f.now) false (env_view c.args.env.now) (fixings_view c.args.fixings.now) i) (λ i. grounded c.args.problem.now (plain_formula_view c.args.g.now) (not c.args.sign) (env_view c.args.env.now) (fixings_view c.args.fixings.now) i) j in
    rw (r.1, r.2) (turn-late false first second c.args.counter.now c.ground_pair.new.counter (cond_view c.in_ok-first.first) _ c.in_ok-first.ensures (sym c.decides.ensures ∙ c.if-decides.false) c.in_err-second.ensures)

pub ground_group-returns-in-Ok-add_absence : goal.ground_group-returns-in-Ok-add_absence
ground_group-returns-in-Ok-add_absence t c =
    let p = c.args.problem.now in
    let o = ground_places (body_at p c.args.site.now) c.args.manner (fixings_view c.args.fixings.now) c.args.object.0 (shape_places p c.args.object.0) c.args.counter.now in
    gathered o (add_absence p c.args.manner c.args.object.0) (joined false) (map cond_view c.ground_places.new.children.items) (map cond_view c.add_absence.new.parts.items) c.ground_places.new.counter c.add_absence.new.counter c.join.result
    (behind-init o ∙ ap (λ l. behind (map cond_view l) o) (sym c.new-children.ensures.items) ∙ c.in-Ok.ensures) c.in-Ok-add_absence.ensures c.join.ensures

pub ground_group-returns-in-Err-add_absence : goal.ground_group-returns-in-Err-add_absence
ground_group-returns-in-Err-add_absence t c =
    let p = c.args.problem.now in
    let o = ground_places (body_at p c.args.site.now) c.args.manner (fixings_view c.args.fixings.now) c.args.object.0 (shape_places p c.args.object.0) c.args.counter.now in
    gathered-fault o (add_absence p c.args.manner c.args.object.0) (joined false) (map cond_view c.ground_places.new.children.items) c.ground_places.new.counter c.in-Err-add_absence.e
    (behind-init o ∙ ap (λ l. behind (map cond_view l) o) (sym c.new-children.ensures.items) ∙ c.in-Ok.ensures) c.in-Err-add_absence.ensures

pub ground_group-returns-in-Err : goal.ground_group-returns-in-Err
ground_group-returns-in-Err t c =
    let p = c.args.problem.now in
    then-fault (List CondTree) CondTree (ground_places (body_at p c.args.site.now) c.args.manner (fixings_view c.args.fixings.now) c.args.object.0 (shape_places p c.args.object.0) c.args.counter.now) _ c.in-Err.e c.in-Err.ensures

pub ground_operands-loop-f-init : goal.ground_operands-loop-f-init
ground_operands-loop-f-init t c = walk-init c.args.problem.now c.args.all c.args.sign (env_view c.args.env.now) (fixings_view c.args.fixings.now) _ c.new-parts.result.items c.new-parts.ensures.items

pub ground_operands-ground-requires : goal.ground_operands-ground-requires
ground_operands-ground-requires t c =
    let h = operand-size c.args.fs.now c.loop-f.f-index c.f-item.result c.loop-f-test.true c.f-item.is in
    omega (arith, h)

pub ground_operands-returns-then-stop : goal.ground_operands-returns-then-stop
ground_operands-returns-then-stop t c =
    walk-stop c.args.problem.now c.args.all c.args.sign (env_view c.args.env.now) (fixings_view c.args.fixings.now)
    (ground_operands c.args.problem.now (plain_formulas_view c.args.fs.now) c.args.all c.args.sign (env_view c.args.env.now) (fixings_view c.args.fixings.now) c.args.counter.now)
    c.args.fs.now c.loop-f.f-index c.f-item.result c.loop-f.counter c.ground.new.counter c.loop-f.parts.items c.add_cond.new.parts.items c.in_ok-part.part c.loop-f.invariant (omega arith) c.f-item.is c.in_ok-part.ensures
    (sym c.decides-stop.ensures ∙ c.if-stop.true) c.in_ok-add_cond.ensures

pub ground_operands-returns-in_err-part : goal.ground_operands-returns-in_err-part
ground_operands-returns-in_err-part t c =
    let r = err_from_is_err_and c.from_residual.result c.from_residual.ensures.1 in
    rw (r.1, r.2) (walk-fault c.args.problem.now c.args.all c.args.sign (env_view c.args.env.now) (fixings_view c.args.fixings.now)
    (ground_operands c.args.problem.now (plain_formulas_view c.args.fs.now) c.args.all c.args.sign (env_view c.args.env.now) (fixings_view c.args.fixings.now) c.args.counter.now)
    c.args.fs.now c.loop-f.f-index c.f-item.result c.loop-f.counter c.loop-f.parts.items _ c.loop-f.invariant (omega arith) c.f-item.is c.in_err-part.ensures)

pub ground_operands-loop-f-preserved : goal.ground_operands-loop-f-preserved
ground_operands-loop-f-preserved t c =
    walk-step c.args.problem.now c.args.all c.args.sign (env_view c.args.env.now) (fixings_view c.args.fixings.now)
    (ground_operands c.args.problem.now (plain_formulas_view c.args.fs.now) c.args.all c.args.sign (env_view c.args.env.now) (fixings_view c.args.fixings.now) c.args.counter.now)
    c.args.fs.now c.loop-f.f-index c.f-item.result c.loop-f.counter c.ground.new.counter c.loop-f.parts.items c.add_cond.new.parts.items c.in_ok-part.part c.loop-f.invariant (omega arith) c.f-item.is c.in_ok-part.ensures
    (sym c.decides-stop.ensures ∙ c.if-stop.false) c.in_ok-add_cond.ensures

pub ground_operands-returns : goal.ground_operands-returns
ground_operands-returns t c =
    walk-end c.args.problem.now c.args.all c.args.sign (env_view c.args.env.now) (fixings_view c.args.fixings.now)
    (ground_operands c.args.problem.now (plain_formulas_view c.args.fs.now) c.args.all c.args.sign (env_view c.args.env.now) (fixings_view c.args.fixings.now) c.args.counter.now)
    c.args.fs.now c.loop-f.f-index c.loop-f.counter c.loop-f.parts.items c.loop-f.invariant (omega arith)

pub ground_optional-returns-in-Err : goal.ground_optional-returns-in-Err
ground_optional-returns-in-Err t c = then-fault Counts CondTree (within_limits (one_leaf (one_visit c.args.counter.now))) _ c.in-Err.e (past-fault (within_limits (one_leaf (one_visit c.args.counter.now))) c.in-Err.e c.in-Err.ensures)

pub ground_optional-returns-in-Ok : goal.ground_optional-returns-in-Ok
ground_optional-returns-in-Ok t c =
    let body = body_at c.args.problem.now c.args.site.now in
    let f = plain_formula_view c.args.site.now.formula.now in
    let o = body (Object c.args.object.0) (fixings_view c.args.fixings.now) c.visit_split.new.self in
    let e : o ≡ grounded c.args.problem.now f c.args.site.now.sign (env_view (envs.More c.args.site.now.env c.args.site.now.variable (things.Object c.args.object.0))) (fixings_view c.args.fixings.now) c.visit_split.new.self =
    (λ i. grounded c.args.problem.now f c.args.site.now.sign (sym (env-more c.args.site.now.env c.args.site.now.variable (things.Object c.args.object.0)) i) (fixings_view c.args.fixings.now) c.visit_split.new.self) in
    step-gives (within_limits (one_leaf (one_visit c.args.counter.now))) _ c.visit_split.new.self c.ground.new.counter c.optional_child.result c.in_default.ensures
    (gives-made CondTree o (optional_child c.args.manner c.args.object.0 (absent_place (object_of c.args.problem.now c.args.object.0))) (cond_view c.in-Ok.body) c.ground.new.counter c.optional_child.result (e ∙ c.in-Ok.ensures)
    (subst (λ s. MatchResult c.optional_child.result (λ x. cond_view x ≡ optional_child c.args.manner c.args.object.0 s (cond_view c.in-Ok.body)) (λ x. x ≡ Memory)) c.absent_place.ensures c.optional_child.ensures))

pub ground_optional-returns-in-Err-ground : goal.ground_optional-returns-in-Err-ground
ground_optional-returns-in-Err-ground t c =
    let body = body_at c.args.problem.now c.args.site.now in
    let f = plain_formula_view c.args.site.now.formula.now in
    let o = body (Object c.args.object.0) (fixings_view c.args.fixings.now) c.visit_split.new.self in
    let e : o ≡ grounded c.args.problem.now f c.args.site.now.sign (env_view (envs.More c.args.site.now.env c.args.site.now.variable (things.Object c.args.object.0))) (fixings_view c.args.fixings.now) c.visit_split.new.self =
    (λ i. grounded c.args.problem.now f c.args.site.now.sign (sym (env-more c.args.site.now.env c.args.site.now.variable (things.Object c.args.object.0)) i) (fixings_view c.args.fixings.now) c.visit_split.new.self) in
    step-fault (within_limits (one_leaf (one_visit c.args.counter.now))) _ c.visit_split.new.self c.in-Err-ground.e c.in_default.ensures
    (then-fault CondTree CondTree o _ c.in-Err-ground.e (subst (λ u. IsFault CondTree u c.in-Err-ground.e) (sym e) c.in-Err-ground.ensures))

pub ground_pair-returns-in_err-first : goal.ground_pair-returns-in_err-first
ground_pair-returns-in_err-first t c =
    let r = err_from_is_err_and c.from_residual.result c.from_residual.ensures.1 in
    let first : Counts → Outcome CondTree = λ j. grounded c.args.problem.now (plain_formula_view c.args.f.now) c.args.f_sign (env_view c.args.env.now) (fixings_view c.args.fixings.now) j in
    let second : Counts → Outcome CondTree = λ j. grounded c.args.problem.now (plain_formula_view c.args.g.now) c.args.g_sign (env_view c.args.env.now) (fixings_view c.args.fixings.now) j in
    rw (r.1, r.2) (turn-fault c.args.all first second c.args.counter.now _ c.in_err-first.ensures)

pub ground_pair-returns-then-decides : goal.ground_pair-returns-then-decides
ground_pair-returns-then-decides t c =
    let first : Counts → Outcome CondTree = λ j. grounded c.args.problem.now (plain_formula_view c.args.f.now) c.args.f_sign (env_view c.args.env.now) (fixings_view c.args.fixings.now) j in
    let second : Counts → Outcome CondTree = λ j. grounded c.args.problem.now (plain_formula_view c.args.g.now) c.args.g_sign (env_view c.args.env.now) (fixings_view c.args.fixings.now) j in
    both_ways _ _ _ _ _ _ _ c.joined_one.ensures
    (λ x v. turn-stop c.args.all first second c.args.counter.now c.ground.new.counter (cond_view c.in_ok-first.first) (cond_view x) c.in_ok-first.ensures (sym c.decides.ensures ∙ c.if-decides.true) v)
    (λ e v. free CondTree (in_turn c.args.all first second c.args.counter.now) e v)

pub ground_pair-returns : goal.ground_pair-returns
ground_pair-returns t c =
    let first : Counts → Outcome CondTree = λ j. grounded c.args.problem.now (plain_formula_view c.args.f.now) c.args.f_sign (env_view c.args.env.now) (fixings_view c.args.fixings.now) j in
    let second : Counts → Outcome CondTree = λ j. grounded c.args.problem.now (plain_formula_view c.args.g.now) c.args.g_sign (env_view c.args.env.now) (fixings_view c.args.fixings.now) j in
    both_ways _ _ _ _ _ _ _ c.joined_two.ensures
    (λ x v. turn-done c.args.all first second c.args.counter.now c.ground.new.counter c.ground-2.new.counter (cond_view c.in_ok-first.first) (cond_view c.in_ok-second.second) (cond_view x) c.in_ok-first.ensures (sym c.decides.ensures ∙ c.if-decides.false) c.in_ok-second.ensures v)
    (λ e v. free CondTree (in_turn c.args.all first second c.args.counter.now) e v)

pub ground_pair-returns-in_err-second : goal.ground_pair-returns-in_err-second
ground_pair-returns-in_err-second t c =
    let r = err_from_is_err_and c.from_residual-in_err-second.result c.from_residual-in_err-second.ensures.1 in
    let first : Counts → Outcome CondTree = λ j. grounded c.args.problem.now (plain_formula_view c.args.f.now) c.args.f_sign (env_view c.args.env.now) (fixings_view c.args.fixings.now) j in
    let second : Counts → Outcome CondTree = λ j. grounded c.args.problem.now (plain_formula_view c.args.g.now) c.args.g_sign (env_view c.args.env.now) (fixings_view c.args.fixings.now) j in
    rw (r.1, r.2) (turn-late c.args.all first second c.args.counter.now c.ground.new.counter (cond_view c.in_ok-first.first) _ c.in_ok-first.ensures (sym c.decides.ensures ∙ c.if-decides.false) c.in_err-second.ensures)

pub ground_place-returns-in-Err : goal.ground_place-returns-in-Err
ground_place-returns-in-Err t c = then-fault Counts CondTree (within_limits (one_leaf (one_visit c.args.counter.now))) _ c.in-Err.e (past-fault (within_limits (one_leaf (one_visit c.args.counter.now))) c.in-Err.e c.in-Err.ensures)

pub ground_place-returns-in-Ok : goal.ground_place-returns-in-Ok
ground_place-returns-in-Ok t c =
    let body = body_at c.args.problem.now c.args.site.now in
    let f = plain_formula_view c.args.site.now.formula.now in
    let o = body (Object c.args.object.0) (record { object = c.args.object.0; place = c.args.place } ∷ fixings_view c.args.fixings.now) c.visit_split.new.self in
    let e : o ≡ grounded c.args.problem.now f c.args.site.now.sign (env_view (envs.More c.args.site.now.env c.args.site.now.variable (things.Object c.args.object.0))) (fixings_view (chain.More c.args.fixings c.args.object.0 c.args.place)) c.visit_split.new.self =
    (λ i. grounded c.args.problem.now f c.args.site.now.sign (sym (env-more c.args.site.now.env c.args.site.now.variable (things.Object c.args.object.0)) i) (sym (fixings-more c.args.fixings c.args.object.0 c.args.place) i) c.visit_split.new.self) in
    step-gives (within_limits (one_leaf (one_visit c.args.counter.now))) _ c.visit_split.new.self c.ground.new.counter c.shape_child.result c.in_default.ensures
    (gives-made CondTree o (shape_child c.args.manner c.args.object.0 c.args.place) (cond_view c.in-Ok.body) c.ground.new.counter c.shape_child.result (e ∙ c.in-Ok.ensures) c.shape_child.ensures)

pub ground_place-returns-in-Err-ground : goal.ground_place-returns-in-Err-ground
ground_place-returns-in-Err-ground t c =
    let body = body_at c.args.problem.now c.args.site.now in
    let f = plain_formula_view c.args.site.now.formula.now in
    let o = body (Object c.args.object.0) (record { object = c.args.object.0; place = c.args.place } ∷ fixings_view c.args.fixings.now) c.visit_split.new.self in
    let e : o ≡ grounded c.args.problem.now f c.args.site.now.sign (env_view (envs.More c.args.site.now.env c.args.site.now.variable (things.Object c.args.object.0))) (fixings_view (chain.More c.args.fixings c.args.object.0 c.args.place)) c.visit_split.new.self =
    (λ i. grounded c.args.problem.now f c.args.site.now.sign (sym (env-more c.args.site.now.env c.args.site.now.variable (things.Object c.args.object.0)) i) (sym (fixings-more c.args.fixings c.args.object.0 c.args.place) i) c.visit_split.new.self) in
    step-fault (within_limits (one_leaf (one_visit c.args.counter.now))) _ c.visit_split.new.self c.in-Err-ground.e c.in_default.ensures
    (then-fault CondTree CondTree o _ c.in-Err-ground.e (subst (λ u. IsFault CondTree u c.in-Err-ground.e) (sym e) c.in-Err-ground.ensures))

pub ground_places-returns-in_err-child : goal.ground_places-returns-in_err-child
ground_places-returns-in_err-child t c =
    let r = err_from_is_err_and c.from_residual.result c.from_residual.ensures.1 in
    let body = body_at c.args.problem.now c.args.site.now in
    let fix = fixings_view c.args.fixings.now in
    let go : ℕ → Counts → Outcome (List CondTree) = λ s j. alone (ground_place body c.args.manner fix c.args.object.0 s j) in
    let whole = ground_places body c.args.manner fix c.args.object.0 (shape_places c.args.problem.now c.args.object.0) c.args.counter.now in
    rw (r.1, r.2) (fault-behind (map cond_view c.args.children.now.items) whole _
    (gather-failed ℕ go (behind (map cond_view c.args.children.now.items) whole) (drop c.loop-before.before (shape_places c.args.problem.now c.args.object.0)) (drop (c.loop-before.before + 1) (shape_places c.args.problem.now c.args.object.0)) (c.loop-before.before + 1) c.loop-before.counter c.loop-before.children.items _ c.loop-before.invariant
    (place-at c.loop-before.before c.shape_count-before-end.result _ c.shape_count-before-end.ensures.same c.loop-before-test.true)
    (alone-fault (ground_place body c.args.manner fix c.args.object.0 (c.loop-before.before + 1) c.loop-before.counter) _ c.in_err-child.ensures)))

pub ground_places-loop-before-preserved : goal.ground_places-loop-before-preserved
ground_places-loop-before-preserved t c =
    let body = body_at c.args.problem.now c.args.site.now in
    let fix = fixings_view c.args.fixings.now in
    let go : ℕ → Counts → Outcome (List CondTree) = λ s j. alone (ground_place body c.args.manner fix c.args.object.0 s j) in
    let whole = ground_places body c.args.manner fix c.args.object.0 (shape_places c.args.problem.now c.args.object.0) c.args.counter.now in
    gather-walk ℕ go (behind (map cond_view c.args.children.now.items) whole) (drop c.loop-before.before (shape_places c.args.problem.now c.args.object.0)) (drop (c.loop-before.before + 1) (shape_places c.args.problem.now c.args.object.0)) (c.loop-before.before + 1) c.loop-before.counter c.ground_place.new.counter c.loop-before.children.items c.add_cond.new.parts.items c.loop-before.invariant
    (place-at c.loop-before.before c.shape_count-before-end.result _ c.shape_count-before-end.ensures.same c.loop-before-test.true)
    (appended c.loop-before.children.items c.add_cond.new.parts.items (ground_place body c.args.manner fix c.args.object.0 (c.loop-before.before + 1) c.loop-before.counter) c.in_ok-child.child c.ground_place.new.counter c.in_ok-child.ensures c.in_ok-add_cond.ensures)

pub ground_places-returns : goal.ground_places-returns
ground_places-returns t c =
    let body = body_at c.args.problem.now c.args.site.now in
    let fix = fixings_view c.args.fixings.now in
    let go : ℕ → Counts → Outcome (List CondTree) = λ s j. alone (ground_place body c.args.manner fix c.args.object.0 s j) in
    let whole = ground_places body c.args.manner fix c.args.object.0 (shape_places c.args.problem.now c.args.object.0) c.args.counter.now in
    gather-over ℕ go (behind (map cond_view c.args.children.now.items) whole) (drop c.loop-before.before (shape_places c.args.problem.now c.args.object.0)) c.loop-before.counter c.loop-before.children.items c.loop-before.invariant
    (places-over c.loop-before.before c.shape_count-before-end.result _ c.shape_count-before-end.ensures.same (omega (arith, c.loop-before-test.false)))

pub ground_quantified-returns-in-Err : goal.ground_quantified-returns-in-Err
ground_quantified-returns-in-Err t c = then-fault Counts CondTree (visit c.args.counter.now) _ c.in-Err.e (past-fault (visit c.args.counter.now) c.in-Err.e c.in-Err.ensures)

pub ground_quantified-returns-in-Ok : goal.ground_quantified-returns-in-Ok
ground_quantified-returns-in-Ok t c =
    quantified-made c.args.problem.now c.args.kind c.args.v (plain_coll_view c.args.coll.now) (plain_formula_view c.args.f.now) c.args.sign (env_view c.args.env.now) (fixings_view c.args.fixings.now) c.args.counter.now c.visit.new.self
    c.body_sign.result c.asks_shapes-asked.result c.manner_of.result (elements_view c.things_of-things.result) c.in_default.ensures c.body_sign.ensures c.manner_of.ensures (c.asks_shapes-asked.ensures c.args.problem.now (fixings_view c.args.fixings.now)) c.things_of-things.ensures.same c.ground_elements.new.counter c.len.result (map cond_view c.in-Ok.children.items) c.quantifier_node.result c.len.ensures c.in-Ok.ensures c.quantifier_node.ensures

pub ground_quantified-returns-in-Err-ground_elements : goal.ground_quantified-returns-in-Err-ground_elements
ground_quantified-returns-in-Err-ground_elements t c =
    quantified-fault c.args.problem.now c.args.kind c.args.v (plain_coll_view c.args.coll.now) (plain_formula_view c.args.f.now) c.args.sign (env_view c.args.env.now) (fixings_view c.args.fixings.now) c.args.counter.now c.visit.new.self
    c.body_sign.result c.asks_shapes-asked.result c.manner_of.result (elements_view c.things_of-things.result) c.in_default.ensures c.body_sign.ensures c.manner_of.ensures (c.asks_shapes-asked.ensures c.args.problem.now (fixings_view c.args.fixings.now)) c.things_of-things.ensures.same c.in-Err-ground_elements.e c.in-Err-ground_elements.ensures

pub ground_split-returns-then-is_counted : goal.ground_split-returns-then-is_counted
ground_split-returns-then-is_counted t c =
    let p = c.args.problem.now in
    let body = body_at p c.args.site.now in
    let fix = fixings_view c.args.fixings.now in
    let group = ground_group p body c.args.manner fix c.args.object.0 c.args.counter.now in
    subst (λ b. Appends (cond b (alone group) (ground_places body c.args.manner fix c.args.object.0 (shape_places p c.args.object.0) c.args.counter.now)) c.args.children.now.items c.add_child.new.parts.items c.ground_group-child.new.counter c.add_child.result)
    (sym c.if-is_counted.true ∙ c.is_counted.ensures)
    (appends-child c.args.children.now.items c.add_child.new.parts.items group c.ground_group-child.new.counter c.ground_group-child.result c.add_child.result c.ground_group-child.ensures c.add_child.ensures)

pub ground_whole-returns-in-Err : goal.ground_whole-returns-in-Err
ground_whole-returns-in-Err t c = alone-fault _ c.in-Err.e (then-fault Counts CondTree (visit c.args.counter.now) _ c.in-Err.e (past-fault (visit c.args.counter.now) c.in-Err.e c.in-Err.ensures))

pub ground_whole-returns-in-None : goal.ground_whole-returns-in-None
ground_whole-returns-in-None t c =
    let f = plain_formula_view c.args.site.now.formula.now in
    let g = step-gives (visit c.args.counter.now) _ c.visit.new.self c.ground-child.new.counter c.ground-child.result c.in_default.ensures
    (subst (λ e. Gives (grounded c.args.problem.now f c.args.site.now.sign e (fixings_view c.args.fixings.now) c.visit.new.self) c.ground-child.new.counter c.ground-child.result) (env-more c.args.site.now.env c.args.site.now.variable c.args.thing) c.ground-child.ensures) in
    busied c.args.manner c.args.children.now.items c.add_child.new.parts.items _ c.ground-child.new.counter c.add_child.result
    (appends-child c.args.children.now.items c.add_child.new.parts.items _ c.ground-child.new.counter c.ground-child.result c.add_child.result g c.add_child.ensures)

pub ground_whole-returns-in-Some : goal.ground_whole-returns-in-Some
ground_whole-returns-in-Some t c =
    let certain = subst (IsRow c.args.problem.now c.args.site.now (fixings_view c.args.fixings.now)) c.in-Some.is c.requires.row in
    subst (λ o. AppendsBusy c.args.manner (alone o) c.args.children.now.items c.add_told.new.children.items c.add_told.new.counter c.add_told.result)
    (sym (then-done Counts CondTree (visit c.args.counter.now) _ c.visit.new.self c.visit.new.self c.in_default.ensures
    ∙ (certain (thing_view c.args.thing)).gives c.visit.new.self))
    c.add_told.ensures

pub ground_whole-returns-in-Some-told_of : goal.ground_whole-returns-in-Some-told_of
ground_whole-returns-in-Some-told_of t c =
    let f = plain_formula_view c.args.site.now.formula.now in
    subst (λ o. AppendsBusy c.args.manner (alone o) c.args.children.now.items c.add_told-in-Some-told_of.new.children.items c.add_told-in-Some-told_of.new.counter c.add_told-in-Some-told_of.result)
    (sym (then-done Counts CondTree (visit c.args.counter.now) _ c.visit.new.self c.visit.new.self c.in_default.ensures
    ∙ ap (λ e. grounded c.args.problem.now f c.args.site.now.sign e (fixings_view c.args.fixings.now) c.visit.new.self) (sym (env-more c.args.site.now.env c.args.site.now.variable c.args.thing))
    ∙ c.in-Some-told_of.ensures.gives c.visit.new.self))
    c.add_told-in-Some-told_of.ensures
