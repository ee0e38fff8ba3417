use Rattle.std.proofs.Common.{◌≡◌, ℕ, ◌+◌, List, [], ◌∷◌, drop, map, true, cond, sym, ap, ◌∙◌, arith, subst}
use Rattle.linear_conditions.specs.CondTree.{cond_view, CondTree}
use Rattle.linear_conditions.specs.Counts.{Counts, Outcome, Done, and_then, one_leaf, one_visit, visit, within_limits}
use Rattle.linear_conditions.specs.Faults.{IsFault}
use Rattle.linear_conditions.specs.Folding.{joined}
use Rattle.linear_conditions.specs.Views.{fixings_view}
use Rattle.linear_conditions.specs.declared.fixings.Fixings.TheVariants as chain
use Rattle.problem_data.specs.Value.{Object}
use Rattle.rule_expand.specs.PlainView.{plain_formula_view}
use Rattle.rule_ground.specs.declared.quantifiers.Manner.TheVariants as ways
use Rattle.rule_ground.specs.Answers.{Gives}
use Rattle.rule_ground.specs.Grounding.{Body, is_open, alone, ground_named, ground_place, ground_places, shape_child}
use Rattle.rule_ground.specs.Shapes.{places}
use Rattle.rule_ground.proofs.Behind.{then-fault, alone-fault, appended, walk-init, gather-walk, gather-failed, gather-over}
use Rattle.rule_ground.proofs.Arms.{gives-made, step-gives, step-fault, place-at, places-over, open-none, open-some}
use Rattle.rule_ground.proofs.Chains.{fixings-more}
use Rattle.linear_conditions.proofs.CounterSteps.{past-fault}
use Rattle.rule_ground.proofs.named.+named.Goals as goal

pub named_object-returns-in-Err : goal.named_object-returns-in-Err
named_object-returns-in-Err t c = then-fault Counts CondTree (visit c.args.counter.now) _ c.in-Err.e (past-fault (visit c.args.counter.now) c.in-Err.e c.in-Err.ensures)

pub named_object-returns-in-None : goal.named_object-returns-in-None
named_object-returns-in-None t c =
    let p = c.args.problem.now in
    let fix = fixings_view c.args.fixings.now in
    let k : Counts = c.visit.new.self in
    let body : Body = λ x more j. ground_named p c.args.rest.now (plain_formula_view c.args.f.now) more j in
    let e = open-none (is_open p fix c.args.o) c.args.o c.in-None.ensures in
    step-gives (visit c.args.counter.now) _ k c.named_whole.new.counter c.named_whole.result c.in_default.ensures
    (subst (λ b. Gives (cond b
    (and_then (List CondTree) CondTree (ground_places body ways.All fix c.args.o (places p c.args.o) k) (λ cs j. Done (joined true cs) j))
    (and_then Counts CondTree (visit k) (λ k' same. and_then CondTree CondTree (body (Object c.args.o) fix k') (λ d j. Done (joined true (d ∷ [])) j))))
    c.named_whole.new.counter c.named_whole.result) (sym e) c.named_whole.ensures)

pub named_object-returns-in-Some : goal.named_object-returns-in-Some
named_object-returns-in-Some t c =
    let p = c.args.problem.now in
    let fix = fixings_view c.args.fixings.now in
    let k : Counts = c.visit.new.self in
    let body : Body = λ x more j. ground_named p c.args.rest.now (plain_formula_view c.args.f.now) more j in
    let e = open-some (is_open p fix c.args.o) c.args.o c.in-Some.object c.in-Some.ensures in
    step-gives (visit c.args.counter.now) _ k c.named_split.new.counter c.named_split.result c.in_default.ensures
    (subst (λ b. Gives (cond b
    (and_then (List CondTree) CondTree (ground_places body ways.All fix c.args.o (places p c.args.o) k) (λ cs j. Done (joined true cs) j))
    (and_then Counts CondTree (visit k) (λ k' same. and_then CondTree CondTree (body (Object c.args.o) fix k') (λ d j. Done (joined true (d ∷ [])) j))))
    c.named_split.new.counter c.named_split.result) (sym e.0)
    (subst (λ u. Gives (and_then (List CondTree) CondTree (ground_places body ways.All fix u (places p u) k) (λ cs j. Done (joined true cs) j)) c.named_split.new.counter c.named_split.result) e.1 c.named_split.ensures))

pub named_place-returns-in-Err : goal.named_place-returns-in-Err
named_place-returns-in-Err t c = then-fault Counts CondTree (within_limits (one_leaf (one_visit c.args.counter.now))) _ c.in-Err.e (past-fault (within_limits (one_leaf (one_visit c.args.counter.now))) c.in-Err.e c.in-Err.ensures)

pub named_place-returns-in-Ok : goal.named_place-returns-in-Ok
named_place-returns-in-Ok t c =
    let f = plain_formula_view c.args.f.now in
    let o = ground_named c.args.problem.now c.args.rest.now f (record { object = c.args.object.0; place = c.args.place } ∷ fixings_view c.args.fixings.now) c.visit_split.new.self in
    let e : o ≡ ground_named c.args.problem.now c.args.rest.now f (fixings_view (chain.More c.args.fixings c.args.object.0 c.args.place)) c.visit_split.new.self =
    ap (λ x. ground_named c.args.problem.now c.args.rest.now f x c.visit_split.new.self) (sym (fixings-more c.args.fixings c.args.object.0 c.args.place)) in
    step-gives (within_limits (one_leaf (one_visit c.args.counter.now))) _ c.visit_split.new.self c.ground_named.new.counter c.shape_child.result c.in_default.ensures
    (gives-made CondTree o (shape_child ways.All c.args.object.0 c.args.place) (cond_view c.in-Ok.body) c.ground_named.new.counter c.shape_child.result (e ∙ c.in-Ok.ensures) c.shape_child.ensures)

pub named_place-returns-in-Err-ground_named : goal.named_place-returns-in-Err-ground_named
named_place-returns-in-Err-ground_named t c =
    let f = plain_formula_view c.args.f.now in
    let o = ground_named c.args.problem.now c.args.rest.now f (record { object = c.args.object.0; place = c.args.place } ∷ fixings_view c.args.fixings.now) c.visit_split.new.self in
    let e : o ≡ ground_named c.args.problem.now c.args.rest.now f (fixings_view (chain.More c.args.fixings c.args.object.0 c.args.place)) c.visit_split.new.self =
    ap (λ x. ground_named c.args.problem.now c.args.rest.now f x c.visit_split.new.self) (sym (fixings-more c.args.fixings c.args.object.0 c.args.place)) in
    step-fault (within_limits (one_leaf (one_visit c.args.counter.now))) _ c.visit_split.new.self c.in-Err-ground_named.e c.in_default.ensures
    (then-fault CondTree CondTree o _ c.in-Err-ground_named.e (subst (λ u. IsFault CondTree u c.in-Err-ground_named.e) (sym e) c.in-Err-ground_named.ensures))

pub named_split-loop-before-init : goal.named_split-loop-before-init
named_split-loop-before-init t c = walk-init c.args.problem.now true true [] [] _ c.new-children.result.items c.new-children.ensures.items

pub named_split-returns-in-Err : goal.named_split-returns-in-Err
named_split-returns-in-Err t c =
    let body : Body = λ x more j. ground_named c.args.problem.now c.args.rest.now (plain_formula_view c.args.f.now) more j in
    let fix = fixings_view c.args.fixings.now in
    let go : ℕ → Counts → Outcome (List CondTree) = λ s j. alone (ground_place body ways.All fix c.args.object.0 s j) in
    let whole = ground_places body ways.All fix c.args.object.0 (places c.args.problem.now c.args.object.0) c.args.counter.now in
    then-fault (List CondTree) CondTree whole _ c.in-Err.e
    (gather-failed ℕ go whole (drop c.loop-before.before (places c.args.problem.now c.args.object.0)) (drop (c.loop-before.before + 1) (places c.args.problem.now c.args.object.0)) (c.loop-before.before + 1) c.loop-before.counter c.loop-before.children.items c.in-Err.e c.loop-before.invariant
    (place-at c.loop-before.before c.place_count-before-end.result _ c.place_count-before-end.ensures c.loop-before-test.true)
    (alone-fault (ground_place body ways.All fix c.args.object.0 (c.loop-before.before + 1) c.loop-before.counter) c.in-Err.e c.in-Err.ensures))

pub named_split-loop-before-preserved : goal.named_split-loop-before-preserved
named_split-loop-before-preserved t c =
    let body : Body = λ x more j. ground_named c.args.problem.now c.args.rest.now (plain_formula_view c.args.f.now) more j in
    let fix = fixings_view c.args.fixings.now in
    let go : ℕ → Counts → Outcome (List CondTree) = λ s j. alone (ground_place body ways.All fix c.args.object.0 s j) in
    let whole = ground_places body ways.All fix c.args.object.0 (places c.args.problem.now c.args.object.0) c.args.counter.now in
    gather-walk ℕ go whole (drop c.loop-before.before (places c.args.problem.now c.args.object.0)) (drop (c.loop-before.before + 1) (places c.args.problem.now c.args.object.0)) (c.loop-before.before + 1) c.loop-before.counter c.named_place.new.counter c.loop-before.children.items c.add_cond.new.parts.items c.loop-before.invariant
    (place-at c.loop-before.before c.place_count-before-end.result _ c.place_count-before-end.ensures c.loop-before-test.true)
    (appended c.loop-before.children.items c.add_cond.new.parts.items (ground_place body ways.All fix c.args.object.0 (c.loop-before.before + 1) c.loop-before.counter) c.in-Ok.child c.named_place.new.counter c.in-Ok.ensures c.in_default.ensures)

pub named_split-returns : goal.named_split-returns
named_split-returns t c =
    let body : Body = λ x more j. ground_named c.args.problem.now c.args.rest.now (plain_formula_view c.args.f.now) more j in
    let fix = fixings_view c.args.fixings.now in
    let go : ℕ → Counts → Outcome (List CondTree) = λ s j. alone (ground_place body ways.All fix c.args.object.0 s j) in
    let whole = ground_places body ways.All fix c.args.object.0 (places c.args.problem.now c.args.object.0) c.args.counter.now in
    gives-made (List CondTree) whole (joined true) (map cond_view c.loop-before.children.items) c.loop-before.counter c.join.result
    (gather-over ℕ go whole (drop c.loop-before.before (places c.args.problem.now c.args.object.0)) c.loop-before.counter c.loop-before.children.items c.loop-before.invariant
    (places-over c.loop-before.before c.place_count-before-end.result _ c.place_count-before-end.ensures (omega (arith, c.loop-before-test.false))))
    c.join.ensures

pub named_whole-returns-in-Err : goal.named_whole-returns-in-Err
named_whole-returns-in-Err t c = then-fault Counts CondTree (visit c.args.counter.now) _ c.in-Err.e (past-fault (visit c.args.counter.now) c.in-Err.e c.in-Err.ensures)

pub named_whole-returns-in-Ok : goal.named_whole-returns-in-Ok
named_whole-returns-in-Ok t c =
    let o = ground_named c.args.problem.now c.args.rest.now (plain_formula_view c.args.f.now) (fixings_view c.args.fixings.now) c.visit.new.self in
    step-gives (visit c.args.counter.now) _ c.visit.new.self c.ground_named.new.counter c.joined_one.result c.in_default.ensures
    (gives-made CondTree o (λ x. joined true (x ∷ [])) (cond_view c.in-Ok.child) c.ground_named.new.counter c.joined_one.result c.in-Ok.ensures c.joined_one.ensures)

pub named_whole-returns-in-Err-ground_named : goal.named_whole-returns-in-Err-ground_named
named_whole-returns-in-Err-ground_named t c =
    let o = ground_named c.args.problem.now c.args.rest.now (plain_formula_view c.args.f.now) (fixings_view c.args.fixings.now) c.visit.new.self in
    step-fault (visit c.args.counter.now) _ c.visit.new.self c.in-Err-ground_named.e c.in_default.ensures
    (then-fault CondTree CondTree o _ c.in-Err-ground_named.e c.in-Err-ground_named.ensures)
