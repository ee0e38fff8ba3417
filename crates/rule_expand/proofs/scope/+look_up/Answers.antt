use Rattle.std.proofs.Common.{◌∙◌, ap, sym}
use Rattle.rule_syntax.specs.Tree.{ExprTree}
use Rattle.rule_expand.specs.Expansion.{expansions_of, meant, meant_by}
use Rattle.rule_expand.specs.Costs.{cost, cost_by, costs_of}
use Rattle.rule_expand.specs.ScopeView.{scope_view, prices}
use Rattle.rule_expand.specs.declared.scope.Scope.{Scope}
use Rattle.rule_expand.proofs.Scopes.{objects-seen, parameters-seen, own-meant, outer-meant, outer-cost, prices-parameters, at-most, at-most-given, at-most-passed}
use Rattle.rule_expand.proofs.scope.+look_up.Goals as goal

pub returns-in-Objects-clause-meant : goal.returns-in-Objects-clause-meant
returns-in-Objects-clause-meant t c =
    c.object_named.ensures.meant ∙ sym (ap (meant_by c.args.source.now.problem.now c.args.name.now) (objects-seen c.args.source.now.problem.now c.in-Objects.is))

pub returns-then-eq-clause-meant : goal.returns-then-eq-clause-meant
returns-then-eq-clause-meant t c =
    own-meant c.args.source.now.problem.now c.args.name.now c.in-Variable.outer c.in-Variable.own c.in-Variable.number c.in-Variable.is (sym c.eq.ensures.value ∙ c.if-eq.true)

pub returns-else-eq-clause-meant : goal.returns-else-eq-clause-meant
returns-else-eq-clause-meant t c =
    c.look_up.ensures.meant ∙ outer-meant c.args.source.now.problem.now c.args.name.now c.in-Variable.outer c.in-Variable.own c.in-Variable.number c.in-Variable.is (sym c.eq.ensures.value ∙ c.if-eq.false)

pub returns-else-eq-clause-cost : goal.returns-else-eq-clause-cost
returns-else-eq-clause-cost t c =
    at-most _ c.look_up.ensures.cost (outer-cost c.args.source.now.problem.now c.args.name.now c.in-Variable.outer c.in-Variable.own c.in-Variable.number c.in-Variable.is (sym c.eq.ensures.value ∙ c.if-eq.false))

pub returns-in-Some-bare_name-clause-meant : goal.returns-in-Some-bare_name-clause-meant
returns-in-Some-bare_name-clause-meant t c =
    let p = c.args.source.now.problem.now in
    c.look_up-in-Some-bare_name.ensures.meant
    ∙ sym (ap (meant_by p c.args.name.now) (parameters-seen p c.in-Parameters.params c.in-Parameters.args c.in-Parameters.caller c.in-Parameters.in_sight c.in-Parameters.is)
    ∙ (c.in-Some.ensures {u = tt}).meant (expansions_of p c.in-Parameters.in_sight) p (scope_view p c.in-Parameters.caller.now)
    ∙ ap (λ (v : ExprTree). meant (expansions_of p c.in-Parameters.in_sight) p v (scope_view p c.in-Parameters.caller.now)) (c.in-Some-bare_name.ensures {u = tt}))

pub returns-in-Some-bare_name-clause-cost : goal.returns-in-Some-bare_name-clause-cost
returns-in-Some-bare_name-clause-cost t c =
    let p = c.args.source.now.problem.now in
    at-most-passed _ c.look_up-in-Some-bare_name.ensures.cost (ap (λ (s : Scope). cost_by c.args.name.now (prices p s)) c.in-Parameters.is
    ∙ ap (cost_by c.args.name.now) (prices-parameters p c.in-Parameters.params c.in-Parameters.args c.in-Parameters.caller c.in-Parameters.in_sight)
    ∙ (c.in-Some.ensures {u = tt}).cost (costs_of p c.in-Parameters.in_sight) p (prices p c.in-Parameters.caller.now)
    ∙ ap (λ (v : ExprTree). cost (costs_of p c.in-Parameters.in_sight) p v (prices p c.in-Parameters.caller.now)) (c.in-Some-bare_name.ensures {u = tt}))

pub returns-in-None-bare_name-clause-meant : goal.returns-in-None-bare_name-clause-meant
returns-in-None-bare_name-clause-meant t c =
    let p = c.args.source.now.problem.now in
    sym (ap (meant_by p c.args.name.now) (parameters-seen p c.in-Parameters.params c.in-Parameters.args c.in-Parameters.caller c.in-Parameters.in_sight c.in-Parameters.is)
    ∙ (c.in-Some.ensures {u = tt}).meant (expansions_of p c.in-Parameters.in_sight) p (scope_view p c.in-Parameters.caller.now) ∙ c.in-None-bare_name.ensures {u = tt} (expansions_of p c.in-Parameters.in_sight) p (scope_view p c.in-Parameters.caller.now))

pub returns-in-None-bare_name-clause-cost : goal.returns-in-None-bare_name-clause-cost
returns-in-None-bare_name-clause-cost t c =
    let p = c.args.source.now.problem.now in
    at-most-given _ (ap (λ (s : Scope). cost_by c.args.name.now (prices p s)) c.in-Parameters.is
    ∙ ap (cost_by c.args.name.now) (prices-parameters p c.in-Parameters.params c.in-Parameters.args c.in-Parameters.caller c.in-Parameters.in_sight)
    ∙ (c.in-Some.ensures {u = tt}).cost (costs_of p c.in-Parameters.in_sight) p (prices p c.in-Parameters.caller.now))

pub returns-in-None-clause-meant : goal.returns-in-None-clause-meant
returns-in-None-clause-meant t c =
    let p = c.args.source.now.problem.now in
    c.object_named-in-None.ensures.meant ∙ sym (ap (meant_by p c.args.name.now) (parameters-seen p c.in-Parameters.params c.in-Parameters.args c.in-Parameters.caller c.in-Parameters.in_sight c.in-Parameters.is)
    ∙ (c.in-None.ensures {u = tt}).meant (expansions_of p c.in-Parameters.in_sight) p (scope_view p c.in-Parameters.caller.now))
