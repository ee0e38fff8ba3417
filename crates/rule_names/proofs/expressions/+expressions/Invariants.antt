use Rattle.std.proofs.Common.{◌≡◌, map, drop}
use Rattle.rule_syntax.specs.Tree.{sums, products, arguments}
use Rattle.rule_syntax.specs.View.{sum_view, product_view, argument_view}
use Rattle.rule_names.specs.Mistakes.{earlier, first_of}
use Rattle.rule_names.specs.ScopeView.{scope_view}
use Rattle.rule_names.specs.Names.{sums_mistakes, products_mistakes, arguments_mistakes}
use Rattle.rule_names.proofs.expressions.+expressions.Given as goal

-- the first so far, and that of the rest

abbrev pub invariant-sums_mistake-steps : goal.invariant-sums_mistake-steps
invariant-sums_mistake-steps l =
    earlier l.found (first_of (sums_mistakes l.problem l.statement (scope_view l.scope) (sums (map sum_view (drop l.step-index l.steps))))) ≡ first_of (sums_mistakes l.problem l.statement (scope_view l.scope) (sums (map sum_view l.steps)))

abbrev pub invariant-products_mistake-steps : goal.invariant-products_mistake-steps
invariant-products_mistake-steps l =
    earlier l.found (first_of (products_mistakes l.problem l.statement (scope_view l.scope) (products (map product_view (drop l.step-index l.steps))))) ≡ first_of (products_mistakes l.problem l.statement (scope_view l.scope) (products (map product_view l.steps)))

abbrev pub invariant-arguments_mistake-arguments : goal.invariant-arguments_mistake-arguments
invariant-arguments_mistake-arguments l =
    earlier l.found (first_of (arguments_mistakes l.problem l.statement (scope_view l.scope) (arguments (map argument_view (drop l.argument-index l.given))))) ≡ first_of (arguments_mistakes l.problem l.statement (scope_view l.scope) (arguments (map argument_view l.given)))
