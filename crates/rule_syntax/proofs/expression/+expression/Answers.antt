use Rattle.std.proofs.Common.{◌<◌, length, sym, subst, ◌∙◌, arith, refl}
use Rattle.geo_tokens.specs.declared.token.Sym.TheVariants as syms
use Rattle.geo_tokens.specs.Words.{symbol, Bind, Tok, Placed}
use Rattle.geo_tokens.specs.Gives.{Gives}
use Rattle.geo_tokens.specs.Reading.{Read, many_at}
use Rattle.geo_tokens.proofs.Loop.{is_done}
use Rattle.geo_tokens.proofs.Followed.{one_shorter, one_more}
use Rattle.rule_syntax.specs.Marks.{symbols, product_marks, term_behinds, expr_behinds}
use Rattle.rule_syntax.specs.Tree.{ExprTree, argument}
use Rattle.rule_syntax.specs.Grammar.{ProductStep, SumStep, Term, Factor, ExprWords}
use Rattle.rule_syntax.specs.Reading.{factor_at, term_at, expr_at, product_step_at, sum_step_at, next_argument_at}
use Rattle.rule_syntax.specs.View.{expr_view, sum_view, sum_views, product_view, product_views, argument_view, argument_views}
use Rattle.rule_syntax.proofs.Expressions.{product_step_is_good, sum_step_is_good, next_argument_is_good, factor_flat, factor_nested}
use Rattle.rule_syntax.proofs.expression.+expression.Goals as goal

pub factor-returns-then-levels-eq0 : goal.factor-returns-then-levels-eq0
factor-returns-then-levels-eq0 t c =
    subst (λ (r : Read ExprTree). Gives expr_view c.flat_factor.result r) (sym (factor_flat c.args.text.now c.args.levels c.args.tokens.now (omega arith))) c.flat_factor.ensures

pub factor-returns-else-levels-eq0 : goal.factor-returns-else-levels-eq0
factor-returns-else-levels-eq0 t c =
    subst (λ (r : Read ExprTree). Gives expr_view c.nested_factor.result r) (sym (factor_nested c.args.text.now c.args.levels c.args.tokens.now (omega arith))) c.nested_factor.ensures

pub more_terms-items-smaller : goal.more_terms-items-smaller
more_terms-items-smaller t c =
    let lt : length c.in_ok-rest.rest.now < length c.items.rest.now = one_shorter (SumStep (Term (Factor c.args.text.now c.args.levels))) (sum_step_at (term_at c.args.text.now c.args.levels)) (symbols syms.Plus syms.Minus) term_behinds (sum_step_is_good c.args.text.now c.args.levels) refl
    sum_view c.sum_step-step.result c.items.steps.items c.add.new.items.items c.items.rest.now c.in_ok-rest.rest c.in_ok-rest.ensures c.sum_step-step.ensures in
    omega arith

pub more_terms-items-preserved : goal.more_terms-items-preserved
more_terms-items-preserved t c =
    one_more (SumStep (Term (Factor c.args.text.now c.args.levels))) (sum_step_at (term_at c.args.text.now c.args.levels)) (symbols syms.Plus syms.Minus) term_behinds (sum_step_is_good c.args.text.now c.args.levels) refl
    sum_view c.sum_step-step.result c.items.steps.items c.add.new.items.items c.items.rest.now c.in_ok-rest.rest (many_at (symbols syms.Plus syms.Minus) (sum_step_at (term_at c.args.text.now c.args.levels)) c.args.tokens.now)
    (sym c.sum_goes_on.ensures ∙ c.items-test.true) c.in_ok-rest.ensures c.sum_step-step.ensures c.items.invariant

pub more_factors-items-smaller : goal.more_factors-items-smaller
more_factors-items-smaller t c =
    let lt : length c.in_ok-rest.rest.now < length c.items.rest.now = one_shorter (ProductStep (Factor c.args.text.now c.args.levels)) (product_step_at (factor_at c.args.text.now c.args.levels)) product_marks (symbol syms.Dot) (product_step_is_good c.args.text.now c.args.levels) refl
    product_view c.product_step-step.result c.items.steps.items c.add.new.items.items c.items.rest.now c.in_ok-rest.rest c.in_ok-rest.ensures c.product_step-step.ensures in
    omega arith

pub more_factors-items-preserved : goal.more_factors-items-preserved
more_factors-items-preserved t c =
    one_more (ProductStep (Factor c.args.text.now c.args.levels)) (product_step_at (factor_at c.args.text.now c.args.levels)) product_marks (symbol syms.Dot) (product_step_is_good c.args.text.now c.args.levels) refl
    product_view c.product_step-step.result c.items.steps.items c.add.new.items.items c.items.rest.now c.in_ok-rest.rest (many_at product_marks (product_step_at (factor_at c.args.text.now c.args.levels)) c.args.tokens.now)
    (sym c.product_goes_on.ensures ∙ c.items-test.true) c.in_ok-rest.ensures c.product_step-step.ensures c.items.invariant

pub more_arguments-items-smaller : goal.more_arguments-items-smaller
more_arguments-items-smaller t c =
    let lt : length c.in_ok-rest.rest.now < length c.items.rest.now = one_shorter (Bind (Tok (symbol syms.Comma)) (λ mark. Placed (ExprWords c.args.text.now c.args.below) argument)) (next_argument_at (expr_at c.args.text.now c.args.below)) (symbol syms.Comma) expr_behinds (next_argument_is_good c.args.text.now c.args.below) refl
    argument_view c.next_argument-argument.result c.items.arguments.items c.add.new.items.items c.items.rest.now c.in_ok-rest.rest c.in_ok-rest.ensures c.next_argument-argument.ensures in
    omega arith

pub more_arguments-items-preserved : goal.more_arguments-items-preserved
more_arguments-items-preserved t c =
    one_more (Bind (Tok (symbol syms.Comma)) (λ mark. Placed (ExprWords c.args.text.now c.args.below) argument)) (next_argument_at (expr_at c.args.text.now c.args.below)) (symbol syms.Comma) expr_behinds (next_argument_is_good c.args.text.now c.args.below) refl
    argument_view c.next_argument-argument.result c.items.arguments.items c.add.new.items.items c.items.rest.now c.in_ok-rest.rest (many_at (symbol syms.Comma) (next_argument_at (expr_at c.args.text.now c.args.below)) c.args.tokens.now)
    (sym c.next_is.ensures ∙ c.items-test.true) c.in_ok-rest.ensures c.next_argument-argument.ensures c.items.invariant

pub more_terms-returns : goal.more_terms-returns
more_terms-returns t c = is_done (symbols syms.Plus syms.Minus) (sum_step_at (term_at c.args.text.now c.args.levels)) (sum_views c.items.steps) c.items.rest.now (many_at (symbols syms.Plus syms.Minus) (sum_step_at (term_at c.args.text.now c.args.levels)) c.args.tokens.now) (sym c.sum_goes_on.ensures ∙ c.items-test.false) c.items.invariant

pub more_factors-returns : goal.more_factors-returns
more_factors-returns t c = is_done product_marks (product_step_at (factor_at c.args.text.now c.args.levels)) (product_views c.items.steps) c.items.rest.now (many_at product_marks (product_step_at (factor_at c.args.text.now c.args.levels)) c.args.tokens.now) (sym c.product_goes_on.ensures ∙ c.items-test.false) c.items.invariant

pub more_arguments-returns : goal.more_arguments-returns
more_arguments-returns t c = is_done (symbol syms.Comma) (next_argument_at (expr_at c.args.text.now c.args.below)) (argument_views c.items.arguments) c.items.rest.now (many_at (symbol syms.Comma) (next_argument_at (expr_at c.args.text.now c.args.below)) c.args.tokens.now) (sym c.next_is.ensures ∙ c.items-test.false) c.items.invariant
