use Rattle.std.proofs.Common.{refl}
use Rattle.rule_syntax.specs.Tree.{formulas}
use Rattle.rule_syntax.specs.View.{formula_view}
use Rattle.problem_data.specs.Divisors.{formula_zeros, formulas_zeros}
use Rattle.statement_faults.proofs.Zeros.{zero_step, zero_done}
use Rattle.statement_faults.proofs.divisors.+formula_zeros.Goals as goal

pub formulas_zero-parts-preserved : goal.formulas_zero-parts-preserved
formulas_zero-parts-preserved t c =
    zero_step formula_view formula_zeros (λ fs. formulas_zeros (formulas fs)) (λ a others. refl) refl c.args.parts.now c.parts.part-index c.part-item.result _ _ _ _ c.parts-test.true c.part-item.is c.lesser-found.ensures.value c.formula_zero-here.ensures c.parts.invariant

pub formulas_zero-returns : goal.formulas_zero-returns
formulas_zero-returns t c = zero_done formula_view formula_zeros (λ fs. formulas_zeros (formulas fs)) (λ a others. refl) refl c.args.parts.now c.parts.part-index _ _ c.parts-test.false c.parts.invariant
