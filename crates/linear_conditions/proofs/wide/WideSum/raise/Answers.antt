use Rattle.std.proofs.Common.{◌+ℤ◌, FitsSigned, get_or, sym, ap, ◌∙◌, subst, List}
use Rattle.std.specs.Int.{w128}
use Rattle.linear_conditions.specs.declared.wide.WideTerm.{WideTerm}
use Rattle.linear_conditions.specs.Views.{wide_terms}
use Rattle.linear_conditions.proofs.WideSteps.{nothing, at_place, room-at, raise-removed, raise-put}
use Rattle.linear_conditions.proofs.wide.WideSum.raise.Goals as goal

pub raised_term-changed-requires : goal.raised_term-changed-requires
raised_term-changed-requires c =
    subst (λ (ws : List WideTerm). FitsSigned w128 ((get_or ws c.args.place nothing).factor +ℤ c.args.a.now.factor)) (sym c.as_slice.ensures)
    (room-at c.args.self.now.terms.items c.args.place c.args.a.now.factor nothing c.requires.room c.requires.place)

pub returns-then-is_zero-clause-terms : goal.returns-then-is_zero-clause-terms
returns-then-is_zero-clause-terms c =
    ap wide_terms c.remove.ensures.items
    ∙ raise-removed c.args.self.now.terms.items c.args.place nothing c.args.a.now c.raised_term-changed.result c.requires.place
    (c.raised_term-changed.ensures ∙ ap (λ (ws : List WideTerm). at_place ws c.args.place nothing c.args.a.now) c.as_slice.ensures) (sym c.is_zero.ensures ∙ c.if-is_zero.true)

pub returns-else-is_zero-clause-terms : goal.returns-else-is_zero-clause-terms
returns-else-is_zero-clause-terms c =
    ap wide_terms c.put.ensures.terms
    ∙ raise-put c.args.self.now.terms.items c.args.place nothing c.args.a.now c.raised_term-changed.result c.requires.place
    (c.raised_term-changed.ensures ∙ ap (λ (ws : List WideTerm). at_place ws c.args.place nothing c.args.a.now) c.as_slice.ensures) (sym c.is_zero.ensures ∙ c.if-is_zero.false)
