use Rattle.std.proofs.Common.{◌≢◌, pos, FitsSigned, get_or, map, length, sym, ap, ◌∙◌, subst, arith, List}
use Rattle.std.specs.Int.{w64}
use Rattle.geo_conditions.specs.Form.{IsBounded}
use Rattle.geo_conditions.specs.Terms.{term_of}
use Rattle.linear_conditions.specs.declared.wide.WideTerm.{WideTerm}
use Rattle.linear_conditions.specs.Views.{wide_terms}
use Rattle.linear_conditions.proofs.WideSteps.{nothing, all-at, taken-all, bounded-fits, narrow-is, form-at}
use Rattle.linear_conditions.proofs.wide.WideSum.to_form.Goals as goal

pub narrow_term-requires : goal.narrow_term-requires
narrow_term-requires c =
    subst (λ (ws : List WideTerm). FitsSigned w64 (get_or ws c.loop-t.t-index nothing).factor) (sym c.as_slice-t-items.ensures)
    (bounded-fits _ (all-at (λ a. IsBounded a.factor × (a.factor ≢ pos 0)) c.args.self.now.terms.items c.loop-t.t-index nothing c.requires.factors
    (omega (arith, c.loop-t-test.true, ap length c.as_slice-t-items.ensures))).0)

pub new-requires : goal.new-requires
new-requires c =
    form-at (wide_terms c.args.self.now.terms.items) _ c.args.self.now.constant _
    (ap (map term_of) c.as_slice.ensures ∙ c.loop-t.invariant ∙ taken-all c.as_slice-t-items.result.now c.loop-t.t-index (omega arith) ∙ ap wide_terms c.as_slice-t-items.ensures)
    (narrow-is c.args.self.now.constant c.requires.constant) c.requires
