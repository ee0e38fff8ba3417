use Rattle.std.proofs.Common.{◌≡◌, List, [], map, sym, ◌∙◌, refl, subst}
use Rattle.linear_conditions.specs.CondTree.{CondTree, cond_view}
use Rattle.linear_conditions.specs.Faults.{IsFault}
use Rattle.rule_expand.specs.PlainView.{plain_formula_view}
use Rattle.rule_ground.specs.Grounding.{named_objects, ground_named}
use Rattle.rule_ground.specs.Rules.{conds_of}
use Rattle.rule_ground.proofs.Behind.{then-made, then-fault}
use Rattle.rule_ground.proofs.RuleSteps.{given-behind}
use Rattle.linear_conditions.specs.Views.{fixings_view}
use Rattle.linear_conditions.specs.declared.fixings.Fixings.TheVariants as chain
use Rattle.rule_ground.proofs.Chains.{fixings-none}
use Rattle.rule_ground.proofs.ground.ground_formula.Goals as goal

pub returns-in-Ok-push_conditions : goal.returns-in-Ok-push_conditions
returns-in-Ok-push_conditions c =
    let f = plain_formula_view c.args.f.now in
    let e : ground_named c.args.problem.now (named_objects c.args.problem.now f) f [] c.args.counter.now ≡ ground_named c.args.problem.now c.as_slice.result.now f (fixings_view chain.Nothing) c.args.counter.now =
    (λ i. ground_named c.args.problem.now ((sym c.in-Ok.ensures ∙ sym c.as_slice.ensures.value) i) f (sym fixings-none i) c.args.counter.now) in
    given-behind (map cond_view c.args.out.now.items) (conds_of (cond_view c.in-Ok-ground_named.c)) _ (map cond_view c.push_conditions.new.out.items) c.ground_named.new.counter
    (then-made CondTree (List CondTree) (ground_named c.args.problem.now (named_objects c.args.problem.now f) f [] c.args.counter.now) conds_of (cond_view c.in-Ok-ground_named.c) c.ground_named.new.counter (conds_of (cond_view c.in-Ok-ground_named.c)) (e ∙ c.in-Ok-ground_named.ensures) refl)
    c.in-Ok-push_conditions.ensures

pub returns : goal.returns
returns c =
    let f = plain_formula_view c.args.f.now in
    let e : ground_named c.args.problem.now (named_objects c.args.problem.now f) f [] c.args.counter.now ≡ ground_named c.args.problem.now c.as_slice.result.now f (fixings_view chain.Nothing) c.args.counter.now =
    (λ i. ground_named c.args.problem.now ((sym c.in-Ok.ensures ∙ sym c.as_slice.ensures.value) i) f (sym fixings-none i) c.args.counter.now) in
    then-fault CondTree (List CondTree) (ground_named c.args.problem.now (named_objects c.args.problem.now f) f [] c.args.counter.now) _ c.in-Err-ground_named.e
    (subst (λ o. IsFault CondTree o c.in-Err-ground_named.e) (sym e) c.in-Err-ground_named.ensures)
