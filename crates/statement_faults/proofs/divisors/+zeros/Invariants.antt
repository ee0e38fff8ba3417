use Rattle.std.proofs.Common.{◌≡◌, map, drop}
use Rattle.rule_syntax.specs.Tree.{sums, products, arguments}
use Rattle.rule_syntax.specs.View.{sum_view, product_view, argument_view}
use Rattle.problem_data.specs.Divisors.{lesser, least_in, sums_zeros, products_zeros, arguments_zeros}
use Rattle.statement_faults.proofs.divisors.+zeros.Given as goal

-- the least place so far, and that of the rest

abbrev pub invariant-sums_zero-steps : goal.invariant-sums_zero-steps
invariant-sums_zero-steps l = lesser l.found (least_in (sums_zeros (sums (map sum_view (drop l.step-index l.steps))))) ≡ least_in (sums_zeros (sums (map sum_view l.steps)))

abbrev pub invariant-products_zero-steps : goal.invariant-products_zero-steps
invariant-products_zero-steps l = lesser l.found (least_in (products_zeros (products (map product_view (drop l.step-index l.steps))))) ≡ least_in (products_zeros (products (map product_view l.steps)))

abbrev pub invariant-arguments_zero-arguments : goal.invariant-arguments_zero-arguments
invariant-arguments_zero-arguments l = lesser l.found (least_in (arguments_zeros (arguments (map argument_view (drop l.argument-index l.given))))) ≡ least_in (arguments_zeros (arguments (map argument_view l.given)))
