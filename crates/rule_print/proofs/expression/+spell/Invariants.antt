use Rattle.std.proofs.Common.{◌≡◌, ◌++◌, ◌∷◌, [], map, drop}
use Rattle.geo_tokens.specs.declared.token.Sym.TheVariants as syms
use Rattle.rule_syntax.specs.Tree.{sums, products, arguments}
use Rattle.rule_syntax.specs.View.{sum_view, product_view, argument_view}
use Rattle.rule_print.specs.Canonical.{written, symbol}
use Rattle.rule_print.specs.Spelled.{sum_spelling, product_spelling, arguments_spelling}
use Rattle.rule_print.proofs.Printing.{left_arguments}
use Rattle.rule_print.proofs.expression.+spell.Given as goal

abbrev pub invariant-spell_sum_steps-steps : goal.invariant-spell_sum_steps-steps
invariant-spell_sum_steps-steps l = map written l.into.items ++ sum_spelling (sums (map sum_view (drop l.step-index l.steps))) ≡ map written l.fn.into.items ++ sum_spelling (sums (map sum_view l.fn.steps))

abbrev pub invariant-spell_product_steps-steps : goal.invariant-spell_product_steps-steps
invariant-spell_product_steps-steps l = map written l.into.items ++ product_spelling (products (map product_view (drop l.step-index l.steps))) ≡ map written l.fn.into.items ++ product_spelling (products (map product_view l.fn.steps))

abbrev pub invariant-spell_arguments-arguments : goal.invariant-spell_arguments-arguments
invariant-spell_arguments-arguments l =
    map written l.into.items ++ left_arguments l.is_first (arguments (map argument_view (drop l.argument-index l.given))) ≡ (map written l.fn.into.items ++ symbol syms.ParenOpen ∷ []) ++ arguments_spelling (arguments (map argument_view l.fn.given))
