use Rattle.std.proofs.Common.{◌∙◌, sym, refl, arith}
use Rattle.rule_expand.specs.PlainView.{plain_formula_view, plain_formulas_view}
use Rattle.rule_ground.specs.Grounding.{needs, some_needs}
use Rattle.rule_ground.proofs.Needed.{none-yet, one-found, none-left}
use Rattle.rule_ground.proofs.needs.+needs.Goals as goal

pub some_needs-loop-f-preserved : goal.some_needs-loop-f-preserved
some_needs-loop-f-preserved t c =
    none-yet (λ x. needs c.args.s (plain_formula_view x)) (λ xs. some_needs c.args.s (plain_formulas_view xs)) (λ x xs. refl) c.args.fs.now c.loop-f.f-index c.f-item.result c.loop-f-test.true c.f-item.is
    (sym c.needs.ensures ∙ c.if-needs.false) c.loop-f.invariant

pub some_needs-returns-then-needs : goal.some_needs-returns-then-needs
some_needs-returns-then-needs t c =
    one-found (λ x. needs c.args.s (plain_formula_view x)) (λ xs. some_needs c.args.s (plain_formulas_view xs)) (λ x xs. refl) c.args.fs.now c.loop-f.f-index c.f-item.result c.loop-f-test.true c.f-item.is
    (sym c.needs.ensures ∙ c.if-needs.true) c.loop-f.invariant

pub some_needs-returns : goal.some_needs-returns
some_needs-returns t c = none-left (λ xs. some_needs c.args.s (plain_formulas_view xs)) refl c.args.fs.now c.loop-f.f-index (omega arith) c.loop-f.invariant
