use Rattle.std.proofs.Common.{◌≡◌, ◌+◌, ◌*◌, length}
use Rattle.geo_tokens.specs.Words.{symbol}
use Rattle.geo_tokens.specs.Reading.{many_at}
use Rattle.geo_tokens.specs.Gives.{with_front}
use Rattle.geo_tokens.specs.declared.token.Sym.TheVariants as syms
use Rattle.rule_syntax.specs.Marks.{symbols, product_marks}
use Rattle.rule_syntax.specs.Reading.{factor_at, term_at, expr_at, sum_step_at, product_step_at, next_argument_at}
use Rattle.rule_syntax.specs.View.{sum_views, product_views, argument_views}
use Rattle.rule_syntax.proofs.expression.+expression.Given as goal

abbrev pub decreases-expression : goal.decreases-expression
decreases-expression l = 20 * l.levels + 9

abbrev pub decreases-more_terms : goal.decreases-more_terms
decreases-more_terms l = 20 * l.levels + 8

abbrev pub decreases-sum_step : goal.decreases-sum_step
decreases-sum_step l = 20 * l.levels + 7

abbrev pub decreases-term : goal.decreases-term
decreases-term l = 20 * l.levels + 6

abbrev pub decreases-more_factors : goal.decreases-more_factors
decreases-more_factors l = 20 * l.levels + 5

abbrev pub decreases-product_step : goal.decreases-product_step
decreases-product_step l = 20 * l.levels + 4

abbrev pub decreases-factor : goal.decreases-factor
decreases-factor l = 20 * l.levels + 3

abbrev pub decreases-nested_factor : goal.decreases-nested_factor
decreases-nested_factor l = 20 * l.levels + 2

abbrev pub decreases-negative : goal.decreases-negative
decreases-negative l = 20 * l.below + 10

abbrev pub decreases-parens : goal.decreases-parens
decreases-parens l = 20 * l.below + 10

abbrev pub decreases-next_argument : goal.decreases-next_argument
decreases-next_argument l = 20 * l.below + 10

abbrev pub decreases-more_arguments : goal.decreases-more_arguments
decreases-more_arguments l = 20 * l.below + 11

abbrev pub decreases-argument_list : goal.decreases-argument_list
decreases-argument_list l = 20 * l.below + 12

abbrev pub decreases-arguments : goal.decreases-arguments
decreases-arguments l = 20 * l.below + 13

abbrev pub decreases-value_call : goal.decreases-value_call
decreases-value_call l = 20 * l.below + 14

abbrev pub decreases-pair : goal.decreases-pair
decreases-pair l = 20 * l.below + 10

abbrev pub decreases-extreme : goal.decreases-extreme
decreases-extreme l = 20 * l.below + 11

abbrev pub invariant-more_terms-items : goal.invariant-more_terms-items
invariant-more_terms-items l = with_front (sum_views l.steps) (many_at (symbols syms.Plus syms.Minus) (sum_step_at (term_at l.text l.levels)) l.rest) ≡ many_at (symbols syms.Plus syms.Minus) (sum_step_at (term_at l.text l.levels)) l.fn.tokens

abbrev pub decreases-more_terms-items : goal.decreases-more_terms-items
decreases-more_terms-items l = length l.rest

abbrev pub invariant-more_factors-items : goal.invariant-more_factors-items
invariant-more_factors-items l = with_front (product_views l.steps) (many_at product_marks (product_step_at (factor_at l.text l.levels)) l.rest) ≡ many_at product_marks (product_step_at (factor_at l.text l.levels)) l.fn.tokens

abbrev pub decreases-more_factors-items : goal.decreases-more_factors-items
decreases-more_factors-items l = length l.rest

abbrev pub invariant-more_arguments-items : goal.invariant-more_arguments-items
invariant-more_arguments-items l = with_front (argument_views l.arguments) (many_at (symbol syms.Comma) (next_argument_at (expr_at l.text l.below)) l.rest) ≡ many_at (symbol syms.Comma) (next_argument_at (expr_at l.text l.below)) l.fn.tokens

abbrev pub decreases-more_arguments-items : goal.decreases-more_arguments-items
decreases-more_arguments-items l = length l.rest
