use Rattle.std.proofs.Common.{◌∙◌, not, sym, ap, arith, subst}
use Rattle.std.specs.Prelude.{IfSome}
use Rattle.linear_conditions.specs.Certain.{IsCertain}
use Rattle.linear_conditions.specs.Compare.{ground_compare}
use Rattle.linear_conditions.specs.Views.{fixings_view}
use Rattle.problem_data.specs.Value.{Thing}
use Rattle.rule_expand.specs.Plain.{all_of, any_of, comparison, implication}
use Rattle.rule_expand.specs.PlainTruth.{set_variable}
use Rattle.rule_expand.specs.PlainView.{plain_expr_view, plain_formula_view, plain_formulas_view}
use Rattle.rule_ground.specs.Grounding.{ground as grounded, joined_operands}
use Rattle.rule_values.specs.View.{env_view}
use Rattle.rule_ground.proofs.Chains.{view-and, view-compare, view-implies, view-or}
use Rattle.rule_ground.proofs.TellSteps.{alike, opened, operand-decides, other, turn-told, twice}
use Rattle.rule_ground.proofs.rows.+row.Goals as goal

pub row_of-returns-in-And : goal.row_of-returns-in-And
row_of-returns-in-And t c =
    subst (λ f. IfSome c.row_operands.result (λ u. (x : Thing) → IsCertain (grounded c.args.problem.now f c.args.sign (set_variable c.args.v x (env_view c.args.env.now)) (fixings_view c.args.fixings.now)) u.visits u.holds))
    (sym (ap plain_formula_view c.in-And.is ∙ view-and c.in-And.fs ∙ ap (λ fs. all_of (plain_formulas_view fs)) (sym c.deref.ensures.value)))
    c.row_operands.ensures

pub row_of-returns-in-Or : goal.row_of-returns-in-Or
row_of-returns-in-Or t c =
    subst (λ f. IfSome c.row_operands-in-Or.result (λ u. (x : Thing) → IsCertain (grounded c.args.problem.now f c.args.sign (set_variable c.args.v x (env_view c.args.env.now)) (fixings_view c.args.fixings.now)) u.visits u.holds))
    (sym (ap plain_formula_view c.in-Or.is ∙ view-or c.in-Or.fs ∙ ap (λ fs. any_of (plain_formulas_view fs)) (sym c.deref-in-Or.ensures.value)))
    c.row_operands-in-Or.ensures

pub row_of-returns-then-first-sign : goal.row_of-returns-then-first-sign
row_of-returns-then-first-sign t c x =
    let first = c.in_ok-first-in-Implies.first in
    subst (λ f. IsCertain (grounded c.args.problem.now f c.args.sign (set_variable c.args.v x (env_view c.args.env.now)) (fixings_view c.args.fixings.now)) first.visits first.holds)
    (sym (ap plain_formula_view c.in-Implies.is ∙ view-implies c.in-Implies.f c.in-Implies._g
    ∙ (λ i. implication (plain_formula_view (sym c.deref-in-Implies.ensures i)) (plain_formula_view c.in-Implies._g.value))))
    (turn-told (not c.args.sign) first.holds _ _ first.visits (alike first.holds c.args.sign c.if-first-sign.true ∙ twice c.args.sign) (c.in_ok-first-in-Implies.ensures x))

pub row_of-returns-in-Compare : goal.row_of-returns-in-Compare
row_of-returns-in-Compare t c =
    let a = plain_expr_view c.deref-in-Compare.result.now in
    let b = plain_expr_view c.deref-in-Compare-2.result.now in
    subst (λ f. IfSome c.row_compare.result (λ u. (x : Thing) → IsCertain (grounded c.args.problem.now f c.args.sign (set_variable c.args.v x (env_view c.args.env.now)) (fixings_view c.args.fixings.now)) u.visits u.holds))
    (sym (ap plain_formula_view c.in-Compare.is ∙ view-compare c.in-Compare.a c.in-Compare.rel c.in-Compare.b
    ∙ (λ i. comparison (plain_expr_view (sym c.deref-in-Compare.ensures i)) c.in-Compare.rel (plain_expr_view (sym c.deref-in-Compare-2.ensures i)))))
    (subst (λ r. IfSome c.row_compare.result (λ u. (x : Thing) → IsCertain (ground_compare c.args.problem.now a r b (set_variable c.args.v x (env_view c.args.env.now)) (fixings_view c.args.fixings.now)) u.visits u.holds))
    c.compared.ensures c.row_compare.ensures)

pub row_operands-returns-else-first-all : goal.row_operands-returns-else-first-all
row_operands-returns-else-first-all t c x =
    let first = c.in_ok-first-in-len1-up.first in
    subst (λ fs. IsCertain (joined_operands c.args.problem.now fs c.args.all c.args.sign (set_variable c.args.v x (env_view c.args.env.now)) (fixings_view c.args.fixings.now)) first.visits first.holds)
    (sym (opened c.args.fs.now c.f-item.result _ (omega (arith, c.in-len1-up.len_at_least)) c.f-item.is))
    (operand-decides c.args.problem.now (plain_formula_view c.f-item.result) c.args.all c.args.sign (set_variable c.args.v x (env_view c.args.env.now)) (fixings_view c.args.fixings.now) _ first.visits first.holds
    (other first.holds c.args.all c.if-first-all.false) (c.in_ok-first-in-len1-up.ensures x))
