use Rattle.std.proofs.Common.{sym, ap, ◌∙◌, arith, List}
use Rattle.linear_conditions.specs.declared.wide.WideTerm.{WideTerm}
use Rattle.linear_conditions.specs.Sums.{place_among}
use Rattle.linear_conditions.specs.Views.{wide_term, wide_terms}
use Rattle.linear_conditions.proofs.WideSteps.{place-within, add-found, add-inserted, add-nothing}
use Rattle.linear_conditions.proofs.wide.WideSum.add_at.Goals as goal

pub insert-requires : goal.insert-requires
insert-requires c =
    (omega arith, place-within (wide_term c.args.a) c.args.self.now.terms.items c.place_for-place.result (c.place_for-place.ensures ∙ ap (λ (ws : List WideTerm). place_among (wide_term c.args.a) (wide_terms ws)) c.as_slice.ensures))

pub returns-then-has_at-clause-terms : goal.returns-then-has_at-clause-terms
returns-then-has_at-clause-terms c =
    c.raise.ensures.terms
    ∙ add-found c.args.a c.args.self.now.terms.items c.place_for-place.result (c.place_for-place.ensures ∙ ap (λ (ws : List WideTerm). place_among (wide_term c.args.a) (wide_terms ws)) c.as_slice.ensures)
    (sym c.has_at.ensures ∙ c.if-has_at.true)

pub returns-in_ok-insert-clause-terms : goal.returns-in_ok-insert-clause-terms
returns-in_ok-insert-clause-terms c =
    ap wide_terms c.in_ok-insert.ensures.ok
    ∙ add-inserted c.args.a c.args.self.now.terms.items c.place_for-place.result (c.place_for-place.ensures ∙ ap (λ (ws : List WideTerm). place_among (wide_term c.args.a) (wide_terms ws)) c.as_slice.ensures)
    (sym c.has_at.ensures ∙ c.if-has_at.false) (sym c.is_zero.ensures ∙ c.if-not-is_zero.true)

pub returns-else-not-is_zero-clause-terms : goal.returns-else-not-is_zero-clause-terms
returns-else-not-is_zero-clause-terms c =
    add-nothing c.args.a c.args.self.now.terms.items c.place_for-place.result (c.place_for-place.ensures ∙ ap (λ (ws : List WideTerm). place_among (wide_term c.args.a) (wide_terms ws)) c.as_slice.ensures)
    (sym c.has_at.ensures ∙ c.if-has_at.false) (sym c.is_zero.ensures ∙ c.if-not-is_zero.false)
