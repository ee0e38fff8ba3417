use Rattle.std.proofs.Common.{◌<◌, length, sym, subst, ◌∙◌, arith, refl}
use Rattle.geo_tokens.specs.declared.token.Keyword.TheVariants as keywords
use Rattle.geo_tokens.specs.Words.{word, Bind, Tok}
use Rattle.geo_tokens.specs.Gives.{Gives}
use Rattle.geo_tokens.specs.Reading.{Read, many_at}
use Rattle.geo_tokens.proofs.Loop.{is_done}
use Rattle.geo_tokens.proofs.Followed.{one_shorter, one_more}
use Rattle.rule_syntax.specs.Marks.{expr_behinds, conjunction_behinds}
use Rattle.rule_syntax.specs.Tree.{FormulaTree}
use Rattle.rule_syntax.specs.Grammar.{Unary, Conjunction}
use Rattle.rule_syntax.specs.Reading.{and_unary_at, or_conjunction_at}
use Rattle.rule_syntax.specs.View.{formula_view, formula_views}
use Rattle.rule_reading.proofs.Formulas.{and_unary_good, or_conjunction_good, unary_flat, unary_nested}
use Rattle.rule_reading.proofs.formula.+formula.Goals as goal

pub unary-returns-then-levels-eq0 : goal.unary-returns-then-levels-eq0
unary-returns-then-levels-eq0 t c =
    subst (λ (r : Read FormulaTree). Gives formula_view c.flat_unary.result r) (sym (unary_flat c.args.text.now c.args.levels c.args.tokens.now (omega arith))) c.flat_unary.ensures

pub unary-returns-else-levels-eq0 : goal.unary-returns-else-levels-eq0
unary-returns-else-levels-eq0 t c =
    subst (λ (r : Read FormulaTree). Gives formula_view c.nested_unary.result r) (sym (unary_nested c.args.text.now c.args.levels c.args.tokens.now (omega arith))) c.nested_unary.ensures

pub more_unaries-items-smaller : goal.more_unaries-items-smaller
more_unaries-items-smaller t c =
    let lt : length c.in_ok-rest.rest.now < length c.items.rest.now = one_shorter (Bind (Tok (word keywords.And)) (λ mark. Unary c.args.text.now c.args.levels)) (and_unary_at c.args.text.now c.args.levels) (word keywords.And) expr_behinds (and_unary_good c.args.text.now c.args.levels) refl
    formula_view c.and_unary-operand.result c.items.operands.items c.add.new.items.items c.items.rest.now c.in_ok-rest.rest c.in_ok-rest.ensures c.and_unary-operand.ensures in
    omega arith

pub more_unaries-items-preserved : goal.more_unaries-items-preserved
more_unaries-items-preserved t c =
    one_more (Bind (Tok (word keywords.And)) (λ mark. Unary c.args.text.now c.args.levels)) (and_unary_at c.args.text.now c.args.levels) (word keywords.And) expr_behinds (and_unary_good c.args.text.now c.args.levels) refl
    formula_view c.and_unary-operand.result c.items.operands.items c.add.new.items.items c.items.rest.now c.in_ok-rest.rest (many_at (word keywords.And) (and_unary_at c.args.text.now c.args.levels) c.args.tokens.now)
    (sym c.next_is.ensures ∙ c.items-test.true) c.in_ok-rest.ensures c.and_unary-operand.ensures c.items.invariant

pub more_conjunctions-items-smaller : goal.more_conjunctions-items-smaller
more_conjunctions-items-smaller t c =
    let lt : length c.in_ok-rest.rest.now < length c.items.rest.now = one_shorter (Bind (Tok (word keywords.Or)) (λ mark. Conjunction (Unary c.args.text.now c.args.levels))) (or_conjunction_at c.args.text.now c.args.levels) (word keywords.Or) conjunction_behinds (or_conjunction_good c.args.text.now c.args.levels) refl
    formula_view c.or_conjunction-operand.result c.items.operands.items c.add.new.items.items c.items.rest.now c.in_ok-rest.rest c.in_ok-rest.ensures c.or_conjunction-operand.ensures in
    omega arith

pub more_conjunctions-items-preserved : goal.more_conjunctions-items-preserved
more_conjunctions-items-preserved t c =
    one_more (Bind (Tok (word keywords.Or)) (λ mark. Conjunction (Unary c.args.text.now c.args.levels))) (or_conjunction_at c.args.text.now c.args.levels) (word keywords.Or) conjunction_behinds (or_conjunction_good c.args.text.now c.args.levels) refl
    formula_view c.or_conjunction-operand.result c.items.operands.items c.add.new.items.items c.items.rest.now c.in_ok-rest.rest (many_at (word keywords.Or) (or_conjunction_at c.args.text.now c.args.levels) c.args.tokens.now)
    (sym c.next_is.ensures ∙ c.items-test.true) c.in_ok-rest.ensures c.or_conjunction-operand.ensures c.items.invariant

pub more_unaries-returns : goal.more_unaries-returns
more_unaries-returns t c = is_done (word keywords.And) (and_unary_at c.args.text.now c.args.levels) (formula_views c.items.operands) c.items.rest.now (many_at (word keywords.And) (and_unary_at c.args.text.now c.args.levels) c.args.tokens.now) (sym c.next_is.ensures ∙ c.items-test.false) c.items.invariant

pub more_conjunctions-returns : goal.more_conjunctions-returns
more_conjunctions-returns t c = is_done (word keywords.Or) (or_conjunction_at c.args.text.now c.args.levels) (formula_views c.items.operands) c.items.rest.now (many_at (word keywords.Or) (or_conjunction_at c.args.text.now c.args.levels) c.args.tokens.now) (sym c.next_is.ensures ∙ c.items-test.false) c.items.invariant
