use Rattle.std.proofs.Common.{◌∙◌, not, sym, ap, arith, subst}
use Rattle.std.specs.Prelude.{IfSome}
use Rattle.linear_conditions.specs.Certain.{IsCertain}
use Rattle.linear_conditions.specs.Views.{fixings_view}
use Rattle.rule_expand.specs.Plain.{any_of, implication}
use Rattle.rule_expand.specs.PlainView.{plain_formula_view, plain_formulas_view}
use Rattle.rule_ground.specs.Grounding.{ground as grounded, joined_operands}
use Rattle.rule_values.specs.View.{env_view}
use Rattle.rule_ground.proofs.Chains.{view-false, view-implies, view-or}
use Rattle.rule_ground.proofs.TellSteps.{alike, alike-not, falsehood-told, only-one, opened, operand-decides, operand-passed, other, other-not, told-alone, told-behind, turn-told, turns-told, twice}
use Rattle.rule_ground.proofs.told.+telling.Goals as goal

pub told_of-returns-in-False : goal.told_of-returns-in-False
told_of-returns-in-False t c =
    subst (λ f. IsCertain (grounded c.args.problem.now f c.args.sign (env_view c.args.env.now) (fixings_view c.args.fixings.now)) c.at_once-in-False.result.visits c.at_once-in-False.result.holds)
    (sym (ap plain_formula_view c.in-False.is ∙ view-false))
    (falsehood-told c.args.problem.now c.args.sign (env_view c.args.env.now) (fixings_view c.args.fixings.now) _ _ c.at_once-in-False.ensures.0 c.at_once-in-False.ensures.1)

pub told_of-returns-in-Or : goal.told_of-returns-in-Or
told_of-returns-in-Or t c =
    subst (λ f. IfSome c.told_operands-in-Or.result (λ u. IsCertain (grounded c.args.problem.now f c.args.sign (env_view c.args.env.now) (fixings_view c.args.fixings.now)) u.visits u.holds))
    (sym (ap plain_formula_view c.in-Or.is ∙ view-or c.in-Or.fs ∙ ap (λ fs. any_of (plain_formulas_view fs)) (sym c.deref-in-Or.ensures.value)))
    c.told_operands-in-Or.ensures

pub told_of-returns-in-Implies : goal.told_of-returns-in-Implies
told_of-returns-in-Implies t c =
    subst (λ f. IfSome c.told_implication.result (λ u. IsCertain (grounded c.args.problem.now f c.args.sign (env_view c.args.env.now) (fixings_view c.args.fixings.now)) u.visits u.holds))
    (sym (ap plain_formula_view c.in-Implies.is ∙ view-implies c.in-Implies.f c.in-Implies.g
    ∙ (λ i. implication (plain_formula_view (sym c.deref-in-Implies.ensures i)) (plain_formula_view (sym c.deref-in-Implies-2.ensures i)))))
    c.told_implication.ensures

pub told_implication-returns-then-first-sign : goal.told_implication-returns-then-first-sign
told_implication-returns-then-first-sign t c =
    turn-told (not c.args.sign) c.in_ok-first.first.holds _ _ c.in_ok-first.first.visits (alike c.in_ok-first.first.holds c.args.sign c.if-first-sign.true ∙ twice c.args.sign) c.in_ok-first.ensures

pub told_implication-returns : goal.told_implication-returns
told_implication-returns t c =
    told-behind c.behind.result _ c.in_ok-first.first.visits c.in_ok-second.second.visits c.in_ok-second.second.holds c.behind.ensures
    (turns-told (not c.args.sign) c.in_ok-first.first.holds c.in_ok-second.second.holds _ _ c.in_ok-first.first.visits c.in_ok-second.second.visits
    (other c.in_ok-first.first.holds c.args.sign c.if-first-sign.false) c.in_ok-first.ensures c.in_ok-second.ensures)

pub told_operands-returns-then-first-all : goal.told_operands-returns-then-first-all
told_operands-returns-then-first-all t c =
    let first = c.in_ok-first-in-len1-up.first in
    subst (λ fs. IsCertain (joined_operands c.args.problem.now fs c.args.all c.args.sign (env_view c.args.env.now) (fixings_view c.args.fixings.now)) first.visits first.holds)
    (sym (opened c.args.fs.now c.f-item-2.result _ (omega (arith, c.in-len1-up.len_at_least)) c.f-item-2.is))
    (operand-decides c.args.problem.now (plain_formula_view c.f-item-2.result) c.args.all c.args.sign (env_view c.args.env.now) (fixings_view c.args.fixings.now) _ first.visits first.holds
    (other-not first.holds c.args.all c.if-first-all.true) c.in_ok-first-in-len1-up.ensures)

pub told_operands-returns-in-len1 : goal.told_operands-returns-in-len1
told_operands-returns-in-len1 t c =
    subst (λ fs. IfSome c.told_of.result (λ u. IsCertain (joined_operands c.args.problem.now fs c.args.all c.args.sign (env_view c.args.env.now) (fixings_view c.args.fixings.now)) u.visits u.holds))
    (sym (only-one c.args.fs.now c.f-item.result _ (omega (arith, c.in-len1.len_at_least, c.in-len1.len_below)) (omega (arith, c.in-len1.len_at_least, c.in-len1.len_below)) c.f-item.is))
    (told-alone c.told_of.result c.args.problem.now (plain_formula_view c.f-item.result) c.args.all c.args.sign (env_view c.args.env.now) (fixings_view c.args.fixings.now) c.told_of.ensures)

pub told_operands-returns-in_ok-others-in-len1-up : goal.told_operands-returns-in_ok-others-in-len1-up
told_operands-returns-in_ok-others-in-len1-up t c =
    let first = c.in_ok-first-in-len1-up.first in
    let others = c.in_ok-others-in-len1-up.others in
    subst (λ fs. IfSome c.behind.result (λ u. IsCertain (joined_operands c.args.problem.now fs c.args.all c.args.sign (env_view c.args.env.now) (fixings_view c.args.fixings.now)) u.visits u.holds))
    (sym (opened c.args.fs.now c.f-item-2.result _ (omega (arith, c.in-len1-up.len_at_least)) c.f-item-2.is))
    (told-behind c.behind.result _ first.visits others.visits others.holds c.behind.ensures
    (operand-passed c.args.problem.now (plain_formula_view c.f-item-2.result) c.args.all c.args.sign (env_view c.args.env.now) (fixings_view c.args.fixings.now) _ first.visits others.visits first.holds others.holds
    (alike-not first.holds c.args.all c.if-first-all.false) c.in_ok-first-in-len1-up.ensures c.in_ok-others-in-len1-up.ensures))
