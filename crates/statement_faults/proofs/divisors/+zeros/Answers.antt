use Rattle.std.proofs.Common.{refl}
use Rattle.rule_syntax.specs.Tree.{sums, products, arguments}
use Rattle.rule_syntax.specs.View.{sum_view, product_view, argument_view}
use Rattle.problem_data.specs.Divisors.{sums_zeros, sum_zeros, products_zeros, product_zeros, arguments_zeros, argument_zeros}
use Rattle.statement_faults.proofs.Zeros.{zero_step, zero_done}
use Rattle.statement_faults.proofs.divisors.+zeros.Goals as goal

pub sums_zero-steps-preserved : goal.sums_zero-steps-preserved
sums_zero-steps-preserved t c =
    zero_step sum_view sum_zeros (λ ss. sums_zeros (sums ss)) (λ a others. refl) refl c.args.steps.now c.steps.step-index c.step-item.result _ _ _ _ c.steps-test.true c.step-item.is c.lesser-found.ensures.value c.sum_zero-here.ensures c.steps.invariant

pub sums_zero-returns : goal.sums_zero-returns
sums_zero-returns t c = zero_done sum_view sum_zeros (λ ss. sums_zeros (sums ss)) (λ a others. refl) refl c.args.steps.now c.steps.step-index _ _ c.steps-test.false c.steps.invariant

pub products_zero-steps-preserved : goal.products_zero-steps-preserved
products_zero-steps-preserved t c =
    zero_step product_view product_zeros (λ ss. products_zeros (products ss)) (λ a others. refl) refl c.args.steps.now c.steps.step-index c.step-item.result _ _ _ _ c.steps-test.true c.step-item.is c.lesser-found.ensures.value c.product_zero-here.ensures c.steps.invariant

pub products_zero-returns : goal.products_zero-returns
products_zero-returns t c = zero_done product_view product_zeros (λ ss. products_zeros (products ss)) (λ a others. refl) refl c.args.steps.now c.steps.step-index _ _ c.steps-test.false c.steps.invariant

pub arguments_zero-arguments-preserved : goal.arguments_zero-arguments-preserved
arguments_zero-arguments-preserved t c =
    zero_step argument_view argument_zeros (λ es. arguments_zeros (arguments es)) (λ a others. refl) refl c.args.given.now c.arguments.argument-index c.argument-item.result _ _ _ _ c.arguments-test.true c.argument-item.is c.lesser-found.ensures.value c.argument_zero-here.ensures c.arguments.invariant

pub arguments_zero-returns : goal.arguments_zero-returns
arguments_zero-returns t c = zero_done argument_view argument_zeros (λ es. arguments_zeros (arguments es)) (λ a others. refl) refl c.args.given.now c.arguments.argument-index _ _ c.arguments-test.false c.arguments.invariant
