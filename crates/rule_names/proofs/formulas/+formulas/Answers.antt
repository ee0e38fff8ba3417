use Rattle.std.proofs.Common.{◌≡◌, ◌∙◌, ℕ, Option, map, refl, sym, subst, ap}
use Rattle.std.specs.Prelude.{Result, IfOk}
use Rattle.rule_syntax.specs.Tree.{FormulaTree, formulas}
use Rattle.rule_syntax.specs.View.{coll_view, formula_view}
use Rattle.rule_syntax.proofs.Views.{truth-seen, falsehood-seen, negation-seen, comparison-seen, quantified-seen, formula_call-seen}
use Rattle.problem_data.specs.Problem.{ProblemData}
use Rattle.rule_names.specs.declared.mistake.Mistake.{Mistake}
use Rattle.rule_names.specs.Mistakes.{first_of}
use Rattle.rule_names.specs.Sight.{Sight, binding}
use Rattle.rule_names.specs.ScopeView.{scope_view}
use Rattle.rule_names.specs.Names.{coll_mistakes, element_kind, formula_mistakes, formulas_mistakes}
use Rattle.rule_names.proofs.Firsts.{part_step, part_done}
use Rattle.rule_names.proofs.formulas.+formulas.Goals as goal

pub formulas_mistake-parts-preserved : goal.formulas_mistake-parts-preserved
formulas_mistake-parts-preserved t c =
    let p = c.args.problem.now in
    let n = c.args.statement in
    let s = scope_view c.args.scope.now in
    part_step (λ x. formula_mistakes p n s (formula_view x)) (λ xs. formulas_mistakes p n s (formulas (map formula_view xs))) (λ x others. refl) refl c.args.parts.now c.parts.part-index c.part-item.result _ _ _ _ c.parts-test.true c.part-item.is c.earlier-found.ensures.value c.in_ok-here.ensures c.parts.invariant

pub formulas_mistake-returns : goal.formulas_mistake-returns
formulas_mistake-returns t c =
    let p = c.args.problem.now in
    let n = c.args.statement in
    let s = scope_view c.args.scope.now in
    part_done (λ x. formula_mistakes p n s (formula_view x)) (λ xs. formulas_mistakes p n s (formulas (map formula_view xs))) (λ x others. refl) refl c.args.parts.now c.parts.part-index _ _ c.parts-test.false c.parts.invariant

given-as : (p : ProblemData) (n : ℕ) (s : Sight) {u v : FormulaTree} (o : Option Mistake) → v ≡ u → o ≡ first_of (formula_mistakes p n s u) → o ≡ first_of (formula_mistakes p n s v)
given-as p n s o e h = h ∙ sym (ap (λ (v : FormulaTree). first_of (formula_mistakes p n s v)) e)

answered-as : {E : Type 0} (p : ProblemData) (n : ℕ) (s : Sight) {u v : FormulaTree} (r : Result (Option Mistake) E) → v ≡ u → IfOk r (λ o. o ≡ first_of (formula_mistakes p n s u)) → IfOk r (λ o. o ≡ first_of (formula_mistakes p n s v))
answered-as p n s r e h = subst (λ (v : FormulaTree). IfOk r (λ o. o ≡ first_of (formula_mistakes p n s v))) (sym e) h

pub formula_mistake-returns-in-True : goal.formula_mistake-returns-in-True
formula_mistake-returns-in-True t c = given-as c.args.problem.now c.args.statement (scope_view c.args.scope.now) _ (truth-seen c.in-True.field-0 c.in-True.is) refl

pub formula_mistake-returns-in-False : goal.formula_mistake-returns-in-False
formula_mistake-returns-in-False t c = given-as c.args.problem.now c.args.statement (scope_view c.args.scope.now) _ (falsehood-seen c.in-False.field-0 c.in-False.is) refl

pub formula_mistake-returns-in-Not : goal.formula_mistake-returns-in-Not
formula_mistake-returns-in-Not t c = answered-as c.args.problem.now c.args.statement (scope_view c.args.scope.now) c.formula_mistake.result (negation-seen c.in-Not.field-0 c.in-Not.inner c.in-Not.is c.deref.ensures) c.formula_mistake.ensures

pub formula_mistake-returns-in-Compare : goal.formula_mistake-returns-in-Compare
formula_mistake-returns-in-Compare t c = given-as c.args.problem.now c.args.statement (scope_view c.args.scope.now) c.comparison_mistake.result (comparison-seen c.in-Compare.field-0 c.in-Compare.left c.in-Compare.field-2 c.in-Compare.right c.in-Compare.is c.deref-in-Compare.ensures c.deref-in-Compare-2.ensures) c.comparison_mistake.ensures

pub formula_mistake-returns-in-Quant : goal.formula_mistake-returns-in-Quant
formula_mistake-returns-in-Quant t c = answered-as c.args.problem.now c.args.statement (scope_view c.args.scope.now) c.quantified_mistake.result (quantified-seen c.in-Quant.field-0 c.in-Quant.field-1 c.in-Quant.v c.in-Quant.coll c.in-Quant.body c.in-Quant.is c.deref-in-Quant.ensures) c.quantified_mistake.ensures

pub formula_mistake-returns-in-Call : goal.formula_mistake-returns-in-Call
formula_mistake-returns-in-Call t c = given-as c.args.problem.now c.args.statement (scope_view c.args.scope.now) c.whole_call_mistake.result (formula_call-seen c.in-Call.place c.in-Call.name c.in-Call.given c.in-Call.is c.as_slice.ensures.value) c.whole_call_mistake.ensures
