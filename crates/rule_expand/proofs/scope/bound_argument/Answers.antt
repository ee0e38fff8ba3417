use Rattle.std.proofs.Common.{◌∙◌, ap, sym, [], get_or}
use Rattle.std.specs.Option.{option_map_or}
use Rattle.rule_syntax.specs.View.{expr_view}
use Rattle.rule_expand.specs.Expansion.{meant_by, meant}
use Rattle.rule_expand.specs.Costs.{cost}
use Rattle.rule_expand.proofs.Scopes.{bound-meant, bound-cost, unbound-meant, unbound-cost}
use Rattle.rule_expand.proofs.scope.bound_argument.Goals as goal

pub returns-in-Some : goal.returns-in-Some
returns-in-Some c = record {
  meant = λ x p sub.
      bound-meant x p sub c.args.name.now c.args.params.now c.args.args.now c.index-args-i.result
      ∙ ap (λ o. option_map_or (λ i. meant x p (expr_view (get_or c.args.args.now i c.index-args-i.result).value) sub) o (meant_by p c.args.name.now [])) (sym c.parameter_index.ensures ∙ c.in-Some.is);
  cost = λ k p env.
      bound-cost k p env c.args.name.now c.args.params.now c.args.args.now c.index-args-i.result
      ∙ ap (λ o. option_map_or (λ i. cost k p (expr_view (get_or c.args.args.now i c.index-args-i.result).value) env) o 0) (sym c.parameter_index.ensures ∙ c.in-Some.is);
}

pub returns-in-None : goal.returns-in-None
returns-in-None c = record {
  meant = λ x p sub. unbound-meant x p sub c.args.name.now c.args.params.now c.args.args.now (sym c.parameter_index.ensures ∙ c.in-None.is);
  cost = λ k p env. unbound-cost k p env c.args.name.now c.args.params.now c.args.args.now (sym c.parameter_index.ensures ∙ c.in-None.is);
}
