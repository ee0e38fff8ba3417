use Rattle.std.proofs.Common.{◌+◌, ◌*◌, map, sum}
use Rattle.std.specs.Option.{option_map_or}
use Rattle.rule_syntax.specs.Tree as tree
use Rattle.rule_syntax.specs.View.{expr_view, sum_view, product_view, argument_view}
use Rattle.problem_data.specs.Value.{macro_position}
use Rattle.rule_expand.specs.Costs.{cost, cost_by, sum_cost, sums_cost, product_cost, products_cost, costs, costs_of}
use Rattle.rule_expand.specs.ScopeView.{scope_view, prices}
use Rattle.rule_expand.specs.Expansion.{expansions_of}
use Rattle.rule_expand.proofs.Steps.{SumsSoFar, ProductsSoFar}
use Rattle.rule_expand.proofs.expressions.+expand.Given as goal

abbrev pub decreases-expand_expr : goal.decreases-expand_expr
decreases-expand_expr l = 8 * cost (costs_of l.source.now.problem.now l.in_sight) l.source.now.problem.now (expr_view l.e.now) (prices l.source.now.problem.now l.scope.now)

abbrev pub decreases-expand_param : goal.decreases-expand_param
decreases-expand_param l = 8 * cost_by l.name.now (prices l.source.now.problem.now l.scope.now) + 1

abbrev pub decreases-expand_negative : goal.decreases-expand_negative
decreases-expand_negative l = 8 * cost (costs_of l.source.now.problem.now l.in_sight) l.source.now.problem.now (expr_view l.e.now) (prices l.source.now.problem.now l.scope.now) + 1

abbrev pub decreases-expand_least : goal.decreases-expand_least
decreases-expand_least l = 8 * (cost (costs_of l.source.now.problem.now l.in_sight) l.source.now.problem.now (expr_view l.a.now) (prices l.source.now.problem.now l.scope.now) + cost (costs_of l.source.now.problem.now l.in_sight) l.source.now.problem.now (expr_view l.b.now) (prices l.source.now.problem.now l.scope.now)) + 1

abbrev pub decreases-expand_greatest : goal.decreases-expand_greatest
decreases-expand_greatest l = 8 * (cost (costs_of l.source.now.problem.now l.in_sight) l.source.now.problem.now (expr_view l.a.now) (prices l.source.now.problem.now l.scope.now) + cost (costs_of l.source.now.problem.now l.in_sight) l.source.now.problem.now (expr_view l.b.now) (prices l.source.now.problem.now l.scope.now)) + 1

abbrev pub decreases-expand_sum : goal.decreases-expand_sum
decreases-expand_sum l = 8 * (cost (costs_of l.source.now.problem.now l.in_sight) l.source.now.problem.now (expr_view l.first.now) (prices l.source.now.problem.now l.scope.now) + sums_cost (costs_of l.source.now.problem.now l.in_sight) l.source.now.problem.now (tree.sums (map sum_view l.steps.now)) (prices l.source.now.problem.now l.scope.now)) + 3

abbrev pub decreases-expand_sum_steps : goal.decreases-expand_sum_steps
decreases-expand_sum_steps l = 8 * sums_cost (costs_of l.source.now.problem.now l.in_sight) l.source.now.problem.now (tree.sums (map sum_view l.steps.now)) (prices l.source.now.problem.now l.scope.now) + 2

abbrev pub decreases-expand_sum_step : goal.decreases-expand_sum_step
decreases-expand_sum_step l = 8 * sum_cost (costs_of l.source.now.problem.now l.in_sight) l.source.now.problem.now (sum_view l.step.now) (prices l.source.now.problem.now l.scope.now) + 1

abbrev pub decreases-expand_product : goal.decreases-expand_product
decreases-expand_product l = 8 * (cost (costs_of l.source.now.problem.now l.in_sight) l.source.now.problem.now (expr_view l.first.now) (prices l.source.now.problem.now l.scope.now) + products_cost (costs_of l.source.now.problem.now l.in_sight) l.source.now.problem.now (tree.products (map product_view l.steps.now)) (prices l.source.now.problem.now l.scope.now)) + 3

abbrev pub decreases-expand_product_steps : goal.decreases-expand_product_steps
decreases-expand_product_steps l = 8 * products_cost (costs_of l.source.now.problem.now l.in_sight) l.source.now.problem.now (tree.products (map product_view l.steps.now)) (prices l.source.now.problem.now l.scope.now) + 2

abbrev pub decreases-expand_product_step : goal.decreases-expand_product_step
decreases-expand_product_step l = 8 * product_cost (costs_of l.source.now.problem.now l.in_sight) l.source.now.problem.now (product_view l.step.now) (prices l.source.now.problem.now l.scope.now) + 1

abbrev pub decreases-expand_call : goal.decreases-expand_call
decreases-expand_call l =
    8 * (sum (costs (costs_of l.source.now.problem.now l.in_sight) l.source.now.problem.now (tree.arguments (map argument_view l.args.now)) (prices l.source.now.problem.now l.scope.now))
    + option_map_or (λ k. costs_of l.source.now.problem.now l.in_sight k (costs (costs_of l.source.now.problem.now l.in_sight) l.source.now.problem.now (tree.arguments (map argument_view l.args.now)) (prices l.source.now.problem.now l.scope.now))) (macro_position l.source.now.problem.now l.m.now.name) 0)
    + 1

abbrev pub invariant-expand_sum_steps-loop-step : goal.invariant-expand_sum_steps-loop-step
invariant-expand_sum_steps-loop-step l = SumsSoFar (expansions_of l.source.problem.now l.in_sight) l.source.problem.now (scope_view l.source.problem.now l.scope) l.steps l.step-index l.fn.room l.deep l.room l.made.items

abbrev pub invariant-expand_product_steps-loop-step : goal.invariant-expand_product_steps-loop-step
invariant-expand_product_steps-loop-step l = ProductsSoFar (expansions_of l.source.problem.now l.in_sight) l.source.problem.now (scope_view l.source.problem.now l.scope) l.steps l.step-index l.fn.room l.deep l.room l.made.items
