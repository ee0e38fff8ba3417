use Rattle.std.proofs.Common.{◌≡◌, ◌∷◌, [], ◌∙◌, ℕ, sym, ap, map}
use Rattle.geo_tokens.specs.declared.token.Keyword.TheVariants as keywords
use Rattle.rule_syntax.specs.Tree as tree
use Rattle.rule_syntax.specs.Tree.{ExprTree, SumTree, ProductTree, ArgumentTree}
use Rattle.rule_syntax.specs.View.{product_view, expr_step, sum_step, product_step, argument_step}
use Rattle.rule_syntax.specs.declared.tree.ProdStep.{ProdStep}
use Rattle.rule_syntax.specs.declared.tree.ProdStep.TheVariants as product_steps
use Rattle.rule_syntax.specs.declared.tree.Expr.TheOpen.{ProdStep-F}
use Rattle.rule_syntax.specs.declared.tree.Expr.TheFolds.{fold-roll-ProdStep}
use Rattle.rule_print.specs.Canonical.{Written, word, written}
use Rattle.rule_print.specs.Spelled.{expr_spelling, sum_step_spelling, product_step_spelling}
use Rattle.rule_syntax.proofs.Views.{num-seen, field-seen, param-seen, shape-seen, negative-seen, sum-seen, product-seen, least-seen, greatest-seen, call-seen, plus-seen, minus-seen, times-seen}
use Rattle.rule_print.proofs.Framed.{more_framed, spelled_as, two_listed}
use Rattle.rule_print.proofs.Loops.{arguments-step, arguments-end, products-step, sums-step}
use Rattle.rule_print.proofs.expression.+spell.Goals as goal

pub spell_sum_steps-steps-preserved : goal.spell_sum_steps-steps-preserved
spell_sum_steps-steps-preserved t c = sums-step c.args.steps.now c.steps.step-index c.step-item.result _ _ _ c.steps-test.true c.step-item.is (c.in_ok-spell_sum_step.ensures {u = tt}) c.steps.invariant

pub spell_product_steps-steps-preserved : goal.spell_product_steps-steps-preserved
spell_product_steps-steps-preserved t c = products-step c.args.steps.now c.steps.step-index c.step-item.result _ _ _ c.steps-test.true c.step-item.is (c.in_ok-spell_product_step.ensures {u = tt}) c.steps.invariant

pub spell_arguments-arguments-preserved : goal.spell_arguments-arguments-preserved
spell_arguments-arguments-preserved t c =
    arguments-step c.arguments.is_first c.args.given.now c.arguments.argument-index c.argument-item.result _ _ _ _ c.arguments-test.true c.argument-item.is (c.in_ok-push_if.ensures {u = tt}) (c.in_ok-spell_expression.ensures {u = tt}) c.arguments.invariant

pub spell_expression-returns-in_ok-spell_sum_steps-in-Sum : goal.spell_expression-returns-in_ok-spell_sum_steps-in-Sum
spell_expression-returns-in_ok-spell_sum_steps-in-Sum t c =
    more_framed c.close.result _ _ _ _ _ _ _ _ _ _ (c.in_ok-spell_opened-in-Sum.ensures {u = tt}) (c.in_ok-spell_sum_steps-in-Sum.ensures {u = tt}) c.close.ensures (ap (expr_spelling c.args.rank) (sum-seen c.in-Sum.field-0 c.in-Sum.first c.in-Sum.steps c.in-Sum.is c.deref-in-Sum.ensures c.as_slice.ensures.value))

pub spell_expression-returns-in_ok-spell_product_steps-in-Prod : goal.spell_expression-returns-in_ok-spell_product_steps-in-Prod
spell_expression-returns-in_ok-spell_product_steps-in-Prod t c =
    more_framed c.close-in-Prod.result _ _ _ _ _ _ _ _ _ _ (c.in_ok-spell_opened-in-Prod.ensures {u = tt}) (c.in_ok-spell_product_steps-in-Prod.ensures {u = tt}) c.close-in-Prod.ensures (ap (expr_spelling c.args.rank) (product-seen c.in-Prod.field-0 c.in-Prod.first c.in-Prod.steps c.in-Prod.is c.deref-in-Prod.ensures c.as_slice-in-Prod.ensures.value))

pub spell_expression-returns-in-Num : goal.spell_expression-returns-in-Num
spell_expression-returns-in-Num t c =
    spelled_as c.push.result _ _ _ _ (ap (expr_spelling c.args.rank) (num-seen c.in-Num.field-0 c.in-Num.n c.in-Num.is) ∙ ap (λ (w : Written). w ∷ []) (sym c.number_lexeme.ensures)) c.push.ensures

pub spell_expression-returns-in-Field : goal.spell_expression-returns-in-Field
spell_expression-returns-in-Field t c =
    spelled_as c.spell_field.result _ _ _ _ (ap (expr_spelling c.args.rank) (field-seen c.in-Field.object _ c.in-Field.field c.in-Field.is)) c.spell_field.ensures

pub spell_expression-returns-in-Param : goal.spell_expression-returns-in-Param
spell_expression-returns-in-Param t c =
    spelled_as c.push_name.result _ _ _ _ (ap (expr_spelling c.args.rank) (param-seen c.in-Param.name c.in-Param.is)) c.push_name.ensures

pub spell_expression-returns-in-Neg : goal.spell_expression-returns-in-Neg
spell_expression-returns-in-Neg t c =
    spelled_as c.spell_behind.result _ _ _ _ (ap (expr_spelling c.args.rank) (negative-seen c.in-Neg.field-0 c.in-Neg.inner c.in-Neg.is c.deref.ensures)) c.spell_behind.ensures

pub spell_expression-returns-in_ok-spell_first-in-Min : goal.spell_expression-returns-in_ok-spell_first-in-Min
spell_expression-returns-in_ok-spell_first-in-Min t c =
    two_listed c.spell_second.result _ _ _ _ _ _ _ _ _ _ (c.in_ok-spell_first-in-Min.ensures {u = tt}) c.spell_second.ensures (ap (expr_spelling c.args.rank) (least-seen c.in-Min.field-0 c.in-Min.first c.in-Min.second c.in-Min.is c.deref-in-Min.ensures c.deref-in-Min-2.ensures))

pub spell_expression-returns-in_ok-spell_first-in-Max : goal.spell_expression-returns-in_ok-spell_first-in-Max
spell_expression-returns-in_ok-spell_first-in-Max t c =
    two_listed c.spell_second-in-Max.result _ _ _ _ _ _ _ _ _ _ (c.in_ok-spell_first-in-Max.ensures {u = tt}) c.spell_second-in-Max.ensures (ap (expr_spelling c.args.rank) (greatest-seen c.in-Max.field-0 c.in-Max.first c.in-Max.second c.in-Max.is c.deref-in-Max.ensures c.deref-in-Max-2.ensures))

pub spell_expression-returns-in-CallValue : goal.spell_expression-returns-in-CallValue
spell_expression-returns-in-CallValue t c =
    spelled_as c.spell_call.result _ _ _ _ (ap (expr_spelling c.args.rank) (call-seen c.in-CallValue.field-0 c.in-CallValue.name c.in-CallValue.arguments c.in-CallValue.is c.as_slice-in-CallValue.ensures.value)) c.spell_call.ensures

pub spell_product_step-returns-in-Times : goal.spell_product_step-returns-in-Times
spell_product_step-returns-in-Times t c =
    spelled_as c.spell_behind.result _ _ _ _ (ap product_step_spelling (times-seen c.in-Times.factor c.in-Times.is)) c.spell_behind.ensures

pub spell_sum_step-returns-in-Plus : goal.spell_sum_step-returns-in-Plus
spell_sum_step-returns-in-Plus t c =
    spelled_as c.spell_behind.result _ _ _ _ (ap sum_step_spelling (plus-seen c.in-Plus.term c.in-Plus.is)) c.spell_behind.ensures

pub spell_sum_step-returns-in-Minus : goal.spell_sum_step-returns-in-Minus
spell_sum_step-returns-in-Minus t c =
    spelled_as c.spell_behind-in-Minus.result _ _ _ _ (ap sum_step_spelling (minus-seen c.in-Minus.term c.in-Minus.is)) c.spell_behind-in-Minus.ensures

pub spell_arguments-returns : goal.spell_arguments-returns
spell_arguments-returns t c = arguments-end c.push_symbol-2.result c.arguments.is_first c.args.given.now c.arguments.argument-index (map written c.args.into.now.items) _ _ _ c.arguments-test.false c.arguments.invariant c.push_symbol-2.ensures

pub spell_expression-returns-in-ShapeNum : goal.spell_expression-returns-in-ShapeNum
spell_expression-returns-in-ShapeNum t c =
    spelled_as c.push_all.result _ _ _ _ (ap (expr_spelling c.args.rank) (shape-seen c.in-ShapeNum.field-0 c.in-ShapeNum.name c.in-ShapeNum.is) ∙ ap (λ (w : Written). word keywords.Shape ∷ w ∷ []) (sym c.name_lexeme.ensures)) c.push_all.ensures

div-seen : {e : ProdStep} (place n : ℕ) → e ≡ product_steps.Div place n → product_view e ≡ tree.over place n
div-seen place n h = rw h (ap product_view (sym (product_steps.rolls-Div place n)) ∙ fold-roll-ProdStep ExprTree ProductTree SumTree ArgumentTree expr_step product_step sum_step argument_step (ProdStep-F.Div place n))

mod-seen : {e : ProdStep} (place n : ℕ) → e ≡ product_steps.Mod place n → product_view e ≡ tree.modulo place n
mod-seen place n h = rw h (ap product_view (sym (product_steps.rolls-Mod place n)) ∙ fold-roll-ProdStep ExprTree ProductTree SumTree ArgumentTree expr_step product_step sum_step argument_step (ProdStep-F.Mod place n))

pub spell_product_step-returns-in-Div : goal.spell_product_step-returns-in-Div
spell_product_step-returns-in-Div t c =
    spelled_as c.push_all.result _ _ _ _ (ap product_step_spelling (div-seen c.in-Div.field-0 c.in-Div.n c.in-Div.is) ∙ ap (λ (w : Written). word keywords.Div ∷ w ∷ []) (sym c.number_lexeme.ensures)) c.push_all.ensures

pub spell_product_step-returns-in-Mod : goal.spell_product_step-returns-in-Mod
spell_product_step-returns-in-Mod t c =
    spelled_as c.push_all-in-Mod.result _ _ _ _ (ap product_step_spelling (mod-seen c.in-Mod.field-0 c.in-Mod.n c.in-Mod.is) ∙ ap (λ (w : Written). word keywords.Mod ∷ w ∷ []) (sym c.number_lexeme-in-Mod.ensures)) c.push_all-in-Mod.ensures
