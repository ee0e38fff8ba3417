use Rattle.std.proofs.Common.{◌≡◌, ◌∙◌, ℕ, ◌+◌, ◌-◌, max, ap, sym, map, subst, refl, arith, List}
use Rattle.std.proofs.lemmas.Result.{err_from_is_err_and}
use Rattle.std.specs.Prelude.{Result, Err}
use Rattle.rule_syntax.specs.Tree as tree
use Rattle.rule_syntax.specs.Tree.{FormulaTree}
use Rattle.problem_data.specs.Problem.{ProblemData}
use Rattle.rule_syntax.specs.View.{coll_view, formula_view, argument_view}
use Rattle.rule_expand.specs.Expansion.{Subst, Expansions, a_subject, arguments_meant, binders, coll_expanded, expansions_of, formula_expanded, formulas_expanded, give}
use Rattle.rule_expand.specs.Counts.{nodes, depth, nodes_in, depth_in}
use Rattle.rule_expand.specs.Costs.{formula_cost, formula_costs_of}
use Rattle.rule_expand.specs.Limits.{IsLimitFault, FormulaMade, GivesFormula}
use Rattle.rule_expand.specs.Plain as plain
use Rattle.rule_expand.specs.Plain.{PlainFormulaTree}
use Rattle.rule_expand.specs.declared.plain.Subject.TheVariants as subjects
use Rattle.rule_expand.specs.declared.plain.PlainFormula.{PlainFormula}
use Rattle.rule_expand.specs.declared.limits.ExpandFault.{ExpandFault}
use Rattle.rule_expand.specs.ScopeView.{scope_view}
use Rattle.rule_expand.proofs.OneNode.{no-node, formula-lacks, formula-forgone, negation-made, operands-made, both-made, quantified-made}
use Rattle.rule_expand.proofs.Scopes.{variable-seen}
use Rattle.rule_expand.proofs.Operands.{Continues, formula_trees, continues-init, operands-fault, operands-step, operands-end, operand-cost, binders-nodes}
use Rattle.rule_syntax.proofs.Views.{truth-seen, falsehood-seen, negation-seen, all_of-seen, any_of-seen, implication-seen, equivalence-seen, comparison-seen, quantified-seen, formula_call-seen}
use Rattle.rule_expand.proofs.formulas.+formula.Goals as goal

given-as : (x : Expansions) (p : ProblemData) (sub : Subst) {u v : FormulaTree} (next room deep next' left : ℕ) (r : Result PlainFormula ExpandFault) → v ≡ u →
    GivesFormula (formula_expanded x p u sub next) next room deep next' left r → GivesFormula (formula_expanded x p v sub next) next room deep next' left r
given-as x p sub next room deep next' left r e h = subst (λ v. GivesFormula (formula_expanded x p v sub next) next room deep next' left r) (sym e) h

pub expand_each-expand_formula-requires : goal.expand_each-expand_formula-requires
expand_each-expand_formula-requires t c =
    let h = operand-cost (formula_costs_of c.args.source.now.problem.now c.args.in_sight) c.args.source.now.problem.now c.args.fs.now c.loop-f.f-index c.f-item.result c.loop-f-test.true c.f-item.is in
    (omega (arith, h), (c.requires.known, omega (arith, c.loop-f.invariant.in_order)))

pub expand_each-returns-in_err-part : goal.expand_each-returns-in_err-part
expand_each-returns-in_err-part t c =
    let r = err_from_is_err_and c.from_residual.result c.from_residual.ensures.1 in
    rw (r.1, r.2) (operands-fault (expansions_of c.args.source.now.problem.now c.args.in_sight) c.args.source.now.problem.now c.args.fs.now c.loop-f.f-index c.f-item.result (scope_view c.args.source.now.problem.now c.args.scope.now) c.args.next.now c.args.room.now c.args.deep c.loop-f.next c.loop-f.room c.loop-f.parts.items _ c.loop-f-test.true c.f-item.is c.loop-f.invariant c.in_err-part.ensures)

pub expand_each-returns : goal.expand_each-returns
expand_each-returns t c =
    operands-end (expansions_of c.args.source.now.problem.now c.args.in_sight) c.args.source.now.problem.now c.args.fs.now c.loop-f.f-index (scope_view c.args.source.now.problem.now c.args.scope.now) c.args.next.now c.args.room.now c.args.deep c.loop-f.next c.loop-f.room c.loop-f.parts.items (omega arith) c.loop-f.invariant

pub expand_each-loop-f-preserved : goal.expand_each-loop-f-preserved
expand_each-loop-f-preserved t c =
    operands-step (expansions_of c.args.source.now.problem.now c.args.in_sight) c.args.source.now.problem.now c.args.fs.now c.loop-f.f-index c.f-item.result (scope_view c.args.source.now.problem.now c.args.scope.now) c.args.next.now c.args.room.now c.args.deep c.loop-f.next c.loop-f.room c.expand_formula.new.next c.expand_formula.new.room c.loop-f.parts.items c.add_formula.new.parts.items c.in_ok-part.part c.loop-f-test.true c.f-item.is c.loop-f.invariant c.in_ok-part.ensures c.in_ok-add_formula.ensures

pub expand_formula-returns-in-Compare : goal.expand_formula-returns-in-Compare
expand_formula-returns-in-Compare t c =
    let p = c.args.source.now.problem.now in
    let v = comparison-seen c.in-Compare.field-0 c.in-Compare.a c.in-Compare.rel c.in-Compare.b c.in-Compare.is c.deref-in-Compare.ensures c.deref-in-Compare-2.ensures in
    let P : PlainFormulaTree → Type 0 = λ f. GivesFormula f c.args.next.now c.args.room.now c.args.deep c.args.next.now c.expand_comparison.new.room c.expand_comparison.result in
    subst P (sym (ap (λ f. formula_expanded (expansions_of p c.args.in_sight) p f (scope_view p c.args.scope.now) c.args.next.now) v)) (c.expand_comparison.ensures c.args.next.now)

pub expand_formula_call-returns-in-None : goal.expand_formula_call-returns-in-None
expand_formula_call-returns-in-None t c =
    let p = c.args.source.now.problem.now in
    let P : PlainFormulaTree → Type 0 = λ f. GivesFormula f c.args.next.now c.args.room.now c.args.deep c.args.next.now c.falsehood.new.room c.falsehood.result in
    subst P (sym (c.in-None.ensures (arguments_meant (expansions_of p c.args.in_sight) p (tree.arguments (map argument_view c.args.args.now)) (scope_view p c.args.scope.now)) c.args.next.now)) (c.falsehood.ensures c.args.next.now)

pub expand_pair-expand_formula-requires-2 : goal.expand_pair-expand_formula-requires-2
expand_pair-expand_formula-requires-2 t c =
    let a = c.in_ok-left.ensures.taken in
    let b = c.in_ok-left.ensures.numbered in
    let h = binders-nodes (formula_expanded (expansions_of c.args.source.now.problem.now c.args.in_sight) c.args.source.now.problem.now (formula_view c.args.f.now) (scope_view c.args.source.now.problem.now c.args.scope.now) c.args.next.now) in
    (omega arith, (c.requires.known, omega (arith, a, b, h)))

pub expand_formula-expand_negation-requires : goal.expand_formula-expand_negation-requires
expand_formula-expand_negation-requires t c =
    let h = ap (λ (v : FormulaTree). formula_cost (formula_costs_of c.args.source.now.problem.now c.args.in_sight) c.args.source.now.problem.now v) (negation-seen c.in-Not.field-0 c.in-Not.f c.in-Not.is c.deref.ensures) in
    (omega (arith, h), (c.requires.known, c.requires.numbers))

pub expand_formula-returns-in-Not : goal.expand_formula-returns-in-Not
expand_formula-returns-in-Not t c =
    given-as (expansions_of c.args.source.now.problem.now c.args.in_sight) c.args.source.now.problem.now (scope_view c.args.source.now.problem.now c.args.scope.now) c.args.next.now c.args.room.now c.args.deep _ _ _ (negation-seen c.in-Not.field-0 c.in-Not.f c.in-Not.is c.deref.ensures) c.expand_negation.ensures

pub expand_formula-expand_all_of-requires : goal.expand_formula-expand_all_of-requires
expand_formula-expand_all_of-requires t c =
    let h = ap (λ (v : FormulaTree). formula_cost (formula_costs_of c.args.source.now.problem.now c.args.in_sight) c.args.source.now.problem.now v) (all_of-seen c.in-And.field-0 c.in-And.fs c.in-And.is c.deref-in-And.ensures.value) in
    (omega (arith, h), (c.requires.known, c.requires.numbers))

pub expand_formula-returns-in-And : goal.expand_formula-returns-in-And
expand_formula-returns-in-And t c =
    given-as (expansions_of c.args.source.now.problem.now c.args.in_sight) c.args.source.now.problem.now (scope_view c.args.source.now.problem.now c.args.scope.now) c.args.next.now c.args.room.now c.args.deep _ _ _ (all_of-seen c.in-And.field-0 c.in-And.fs c.in-And.is c.deref-in-And.ensures.value) c.expand_all_of.ensures

pub expand_formula-expand_any_of-requires : goal.expand_formula-expand_any_of-requires
expand_formula-expand_any_of-requires t c =
    let h = ap (λ (v : FormulaTree). formula_cost (formula_costs_of c.args.source.now.problem.now c.args.in_sight) c.args.source.now.problem.now v) (any_of-seen c.in-Or.field-0 c.in-Or.fs c.in-Or.is c.deref-in-Or.ensures.value) in
    (omega (arith, h), (c.requires.known, c.requires.numbers))

pub expand_formula-returns-in-Or : goal.expand_formula-returns-in-Or
expand_formula-returns-in-Or t c =
    given-as (expansions_of c.args.source.now.problem.now c.args.in_sight) c.args.source.now.problem.now (scope_view c.args.source.now.problem.now c.args.scope.now) c.args.next.now c.args.room.now c.args.deep _ _ _ (any_of-seen c.in-Or.field-0 c.in-Or.fs c.in-Or.is c.deref-in-Or.ensures.value) c.expand_any_of.ensures

pub expand_formula-expand_implication-requires : goal.expand_formula-expand_implication-requires
expand_formula-expand_implication-requires t c =
    let h = ap (λ (v : FormulaTree). formula_cost (formula_costs_of c.args.source.now.problem.now c.args.in_sight) c.args.source.now.problem.now v) (implication-seen c.in-Implies.field-0 c.in-Implies.f c.in-Implies.g c.in-Implies.is c.deref-in-Implies.ensures c.deref-in-Implies-2.ensures) in
    (omega (arith, h), (c.requires.known, c.requires.numbers))

pub expand_formula-returns-in-Implies : goal.expand_formula-returns-in-Implies
expand_formula-returns-in-Implies t c =
    given-as (expansions_of c.args.source.now.problem.now c.args.in_sight) c.args.source.now.problem.now (scope_view c.args.source.now.problem.now c.args.scope.now) c.args.next.now c.args.room.now c.args.deep _ _ _ (implication-seen c.in-Implies.field-0 c.in-Implies.f c.in-Implies.g c.in-Implies.is c.deref-in-Implies.ensures c.deref-in-Implies-2.ensures) c.expand_implication.ensures

pub expand_formula-expand_equivalence-requires : goal.expand_formula-expand_equivalence-requires
expand_formula-expand_equivalence-requires t c =
    let h = ap (λ (v : FormulaTree). formula_cost (formula_costs_of c.args.source.now.problem.now c.args.in_sight) c.args.source.now.problem.now v) (equivalence-seen c.in-Iff.field-0 c.in-Iff.f c.in-Iff.g c.in-Iff.is c.deref-in-Iff.ensures c.deref-in-Iff-2.ensures) in
    (omega (arith, h), (c.requires.known, c.requires.numbers))

pub expand_formula-returns-in-Iff : goal.expand_formula-returns-in-Iff
expand_formula-returns-in-Iff t c =
    given-as (expansions_of c.args.source.now.problem.now c.args.in_sight) c.args.source.now.problem.now (scope_view c.args.source.now.problem.now c.args.scope.now) c.args.next.now c.args.room.now c.args.deep _ _ _ (equivalence-seen c.in-Iff.field-0 c.in-Iff.f c.in-Iff.g c.in-Iff.is c.deref-in-Iff.ensures c.deref-in-Iff-2.ensures) c.expand_equivalence.ensures

pub expand_formula-expand_quantified-requires : goal.expand_formula-expand_quantified-requires
expand_formula-expand_quantified-requires t c =
    let h = ap (λ (v : FormulaTree). formula_cost (formula_costs_of c.args.source.now.problem.now c.args.in_sight) c.args.source.now.problem.now v) (quantified-seen c.in-Quant.field-0 c.in-Quant.kind c.in-Quant.v c.in-Quant.coll c.in-Quant.f c.in-Quant.is c.deref-in-Quant.ensures) in
    (omega (arith, h), (c.requires.known, c.requires.numbers))

pub expand_formula-returns-in-Quant : goal.expand_formula-returns-in-Quant
expand_formula-returns-in-Quant t c =
    given-as (expansions_of c.args.source.now.problem.now c.args.in_sight) c.args.source.now.problem.now (scope_view c.args.source.now.problem.now c.args.scope.now) c.args.next.now c.args.room.now c.args.deep _ _ _ (quantified-seen c.in-Quant.field-0 c.in-Quant.kind c.in-Quant.v c.in-Quant.coll c.in-Quant.f c.in-Quant.is c.deref-in-Quant.ensures) c.expand_quantified.ensures

pub expand_formula-expand_formula_call-requires : goal.expand_formula-expand_formula_call-requires
expand_formula-expand_formula_call-requires t c =
    let h = ap (λ (v : FormulaTree). formula_cost (formula_costs_of c.args.source.now.problem.now c.args.in_sight) c.args.source.now.problem.now v) (formula_call-seen c.in-Call.field-0 c.in-Call.m c.in-Call.args c.in-Call.is c.deref-in-Call.ensures.value) in
    (omega (arith, h), (c.requires.known, c.requires.numbers))

pub expand_formula-returns-in-Call : goal.expand_formula-returns-in-Call
expand_formula-returns-in-Call t c =
    given-as (expansions_of c.args.source.now.problem.now c.args.in_sight) c.args.source.now.problem.now (scope_view c.args.source.now.problem.now c.args.scope.now) c.args.next.now c.args.room.now c.args.deep _ _ _ (formula_call-seen c.in-Call.field-0 c.in-Call.m c.in-Call.args c.in-Call.is c.deref-in-Call.ensures.value) c.expand_formula_call.ensures

pub expand_negation-expand_formula-requires : goal.expand_negation-expand_formula-requires
expand_negation-expand_formula-requires t c =
    let k = (c.if-not-take_node.ensures {u = tt}).0 in
    let n = c.requires.numbers in
    (omega arith, (c.requires.known, omega (arith, k, n)))

pub expand_negation-returns-in_err-inner : goal.expand_negation-returns-in_err-inner
expand_negation-returns-in_err-inner t c =
    let p = c.args.source.now.problem.now in
    let sub = scope_view p c.args.scope.now in
    let f = formula_expanded (expansions_of p c.args.in_sight) p (formula_view c.args.f.now) sub c.args.next.now in
    let k = c.if-not-take_node.ensures {u = tt} in
    let r = err_from_is_err_and c.from_residual.result c.from_residual.ensures.1 in
    formula-lacks (plain.negation f) (nodes f) (depth f) 1 c.args.next.now c.args.room.now c.take_node.new.room c.args.deep c.expand_formula.new.next c.expand_formula.new.room _ c.from_residual.result (r.1 ∙ ap (λ (f : ExpandFault). Err f) r.2) k.0 (omega arith) (omega arith) k.1 (c.in_err-inner.ensures {u = tt})

pub expand_negation-returns : goal.expand_negation-returns
expand_negation-returns t c =
    let p = c.args.source.now.problem.now in
    let sub = scope_view p c.args.scope.now in
    negation-made (formula_expanded (expansions_of p c.args.in_sight) p (formula_view c.args.f.now) sub c.args.next.now) c.args.next.now c.args.room.now c.take_node.new.room c.args.deep c.expand_formula.new.next c.expand_formula.new.room c.in_ok-inner.inner c.negation.result (c.if-not-take_node.ensures {u = tt}) (c.in_ok-inner.ensures {u = tt}) c.negation.ensures

pub expand_all_of-expand_each-requires : goal.expand_all_of-expand_each-requires
expand_all_of-expand_each-requires t c =
    let k = (c.if-not-take_node.ensures {u = tt}).0 in
    let n = c.requires.numbers in
    (omega arith, (c.requires.known, omega (arith, k, n)))

pub expand_all_of-returns-in_err-parts : goal.expand_all_of-returns-in_err-parts
expand_all_of-returns-in_err-parts t c =
    let p = c.args.source.now.problem.now in
    let sub = scope_view p c.args.scope.now in
    let fs = formulas_expanded (expansions_of p c.args.in_sight) p (tree.formulas (map formula_view c.args.fs.now)) sub c.args.next.now in
    let k = c.if-not-take_node.ensures {u = tt} in
    let r = err_from_is_err_and c.from_residual.result c.from_residual.ensures.1 in
    formula-lacks (plain.all_of fs) (nodes_in fs) (depth_in fs) 1 c.args.next.now c.args.room.now c.take_node.new.room c.args.deep c.expand_each.new.next c.expand_each.new.room _ c.from_residual.result (r.1 ∙ ap (λ (f : ExpandFault). Err f) r.2) k.0 (omega arith) (omega arith) k.1 (c.in_err-parts.ensures {u = tt})

pub expand_all_of-returns : goal.expand_all_of-returns
expand_all_of-returns t c =
    let p = c.args.source.now.problem.now in
    let sub = scope_view p c.args.scope.now in
    let fs = formulas_expanded (expansions_of p c.args.in_sight) p (tree.formulas (map formula_view c.args.fs.now)) sub c.args.next.now in
    operands-made plain.all_of fs c.args.next.now c.args.room.now c.take_node.new.room c.args.deep c.expand_each.new.next c.expand_each.new.room c.in_ok-parts.parts.items c.all_of.result refl refl refl (c.if-not-take_node.ensures {u = tt}) (c.in_ok-parts.ensures {u = tt}) c.all_of.ensures

pub expand_any_of-expand_each-requires : goal.expand_any_of-expand_each-requires
expand_any_of-expand_each-requires t c =
    let k = (c.if-not-take_node.ensures {u = tt}).0 in
    let n = c.requires.numbers in
    (omega arith, (c.requires.known, omega (arith, k, n)))

pub expand_any_of-returns-in_err-parts : goal.expand_any_of-returns-in_err-parts
expand_any_of-returns-in_err-parts t c =
    let p = c.args.source.now.problem.now in
    let sub = scope_view p c.args.scope.now in
    let fs = formulas_expanded (expansions_of p c.args.in_sight) p (tree.formulas (map formula_view c.args.fs.now)) sub c.args.next.now in
    let k = c.if-not-take_node.ensures {u = tt} in
    let r = err_from_is_err_and c.from_residual.result c.from_residual.ensures.1 in
    formula-lacks (plain.any_of fs) (nodes_in fs) (depth_in fs) 1 c.args.next.now c.args.room.now c.take_node.new.room c.args.deep c.expand_each.new.next c.expand_each.new.room _ c.from_residual.result (r.1 ∙ ap (λ (f : ExpandFault). Err f) r.2) k.0 (omega arith) (omega arith) k.1 (c.in_err-parts.ensures {u = tt})

pub expand_any_of-returns : goal.expand_any_of-returns
expand_any_of-returns t c =
    let p = c.args.source.now.problem.now in
    let sub = scope_view p c.args.scope.now in
    let fs = formulas_expanded (expansions_of p c.args.in_sight) p (tree.formulas (map formula_view c.args.fs.now)) sub c.args.next.now in
    operands-made plain.any_of fs c.args.next.now c.args.room.now c.take_node.new.room c.args.deep c.expand_each.new.next c.expand_each.new.room c.in_ok-parts.parts.items c.any_of.result refl refl refl (c.if-not-take_node.ensures {u = tt}) (c.in_ok-parts.ensures {u = tt}) c.any_of.ensures

pub expand_implication-expand_pair-requires : goal.expand_implication-expand_pair-requires
expand_implication-expand_pair-requires t c =
    let k = (c.if-not-take_node.ensures {u = tt}).0 in
    let n = c.requires.numbers in
    (omega arith, (c.requires.known, omega (arith, k, n)))

pub expand_implication-returns-in_err-pair : goal.expand_implication-returns-in_err-pair
expand_implication-returns-in_err-pair t c =
    let p = c.args.source.now.problem.now in
    let sub = scope_view p c.args.scope.now in
    let f = formula_expanded (expansions_of p c.args.in_sight) p (formula_view c.args.f.now) sub c.args.next.now in
    let g = formula_expanded (expansions_of p c.args.in_sight) p (formula_view c.args.g.now) sub (c.args.next.now + binders f) in
    let k = c.if-not-take_node.ensures {u = tt} in
    let r = err_from_is_err_and c.from_residual.result c.from_residual.ensures.1 in
    formula-lacks (plain.implication f g) (nodes f + nodes g) (max (depth f) (depth g)) 1 c.args.next.now c.args.room.now c.take_node.new.room c.args.deep c.expand_pair.new.next c.expand_pair.new.room _ c.from_residual.result (r.1 ∙ ap (λ (f : ExpandFault). Err f) r.2) k.0 (omega arith) (omega arith) k.1 (c.in_err-pair.ensures {u = tt})

pub expand_implication-returns : goal.expand_implication-returns
expand_implication-returns t c =
    let p = c.args.source.now.problem.now in
    let sub = scope_view p c.args.scope.now in
    let f = formula_expanded (expansions_of p c.args.in_sight) p (formula_view c.args.f.now) sub c.args.next.now in
    let g = formula_expanded (expansions_of p c.args.in_sight) p (formula_view c.args.g.now) sub (c.args.next.now + binders f) in
    both-made plain.implication f g c.args.next.now c.args.room.now c.take_node.new.room c.args.deep c.expand_pair.new.next c.expand_pair.new.room _ _ c.implication.result refl refl refl (c.if-not-take_node.ensures {u = tt}) (c.in_ok-pair.ensures {u = tt}) c.implication.ensures

pub expand_equivalence-expand_pair-requires : goal.expand_equivalence-expand_pair-requires
expand_equivalence-expand_pair-requires t c =
    let k = (c.if-not-take_node.ensures {u = tt}).0 in
    let n = c.requires.numbers in
    (omega arith, (c.requires.known, omega (arith, k, n)))

pub expand_equivalence-returns-in_err-pair : goal.expand_equivalence-returns-in_err-pair
expand_equivalence-returns-in_err-pair t c =
    let p = c.args.source.now.problem.now in
    let sub = scope_view p c.args.scope.now in
    let f = formula_expanded (expansions_of p c.args.in_sight) p (formula_view c.args.f.now) sub c.args.next.now in
    let g = formula_expanded (expansions_of p c.args.in_sight) p (formula_view c.args.g.now) sub (c.args.next.now + binders f) in
    let k = c.if-not-take_node.ensures {u = tt} in
    let r = err_from_is_err_and c.from_residual.result c.from_residual.ensures.1 in
    formula-lacks (plain.equivalence f g) (nodes f + nodes g) (max (depth f) (depth g)) 1 c.args.next.now c.args.room.now c.take_node.new.room c.args.deep c.expand_pair.new.next c.expand_pair.new.room _ c.from_residual.result (r.1 ∙ ap (λ (f : ExpandFault). Err f) r.2) k.0 (omega arith) (omega arith) k.1 (c.in_err-pair.ensures {u = tt})

pub expand_equivalence-returns : goal.expand_equivalence-returns
expand_equivalence-returns t c =
    let p = c.args.source.now.problem.now in
    let sub = scope_view p c.args.scope.now in
    let f = formula_expanded (expansions_of p c.args.in_sight) p (formula_view c.args.f.now) sub c.args.next.now in
    let g = formula_expanded (expansions_of p c.args.in_sight) p (formula_view c.args.g.now) sub (c.args.next.now + binders f) in
    both-made plain.equivalence f g c.args.next.now c.args.room.now c.take_node.new.room c.args.deep c.expand_pair.new.next c.expand_pair.new.room _ _ c.equivalence.result refl refl refl (c.if-not-take_node.ensures {u = tt}) (c.in_ok-pair.ensures {u = tt}) c.equivalence.ensures

pub expand_negation-returns-then-not-take_node : goal.expand_negation-returns-then-not-take_node
expand_negation-returns-then-not-take_node t c = no-node _ _ _ _ (omega arith) (omega arith) (c.if-not-take_node.ensures {u = tt})

pub expand_all_of-returns-then-not-take_node : goal.expand_all_of-returns-then-not-take_node
expand_all_of-returns-then-not-take_node t c = no-node _ _ _ _ (omega arith) (omega arith) (c.if-not-take_node.ensures {u = tt})

pub expand_any_of-returns-then-not-take_node : goal.expand_any_of-returns-then-not-take_node
expand_any_of-returns-then-not-take_node t c = no-node _ _ _ _ (omega arith) (omega arith) (c.if-not-take_node.ensures {u = tt})

pub expand_implication-returns-then-not-take_node : goal.expand_implication-returns-then-not-take_node
expand_implication-returns-then-not-take_node t c = no-node _ _ _ _ (omega arith) (omega arith) (c.if-not-take_node.ensures {u = tt})

pub expand_equivalence-returns-then-not-take_node : goal.expand_equivalence-returns-then-not-take_node
expand_equivalence-returns-then-not-take_node t c = no-node _ _ _ _ (omega arith) (omega arith) (c.if-not-take_node.ensures {u = tt})

pub expand_quantified-returns-then-not-take_node : goal.expand_quantified-returns-then-not-take_node
expand_quantified-returns-then-not-take_node t c = no-node _ _ _ _ (omega arith) (omega arith) (c.if-not-take_node.ensures {u = tt})

pub expand_quantified-expand_formula-requires : goal.expand_quantified-expand_formula-requires
expand_quantified-expand_formula-requires t c =
    let k = (c.if-not-take_node.ensures {u = tt}).0 in
    let n = c.requires.numbers in
    (omega arith, (c.requires.known, omega (arith, k, n)))

pub expand_quantified-returns-in_err-elements : goal.expand_quantified-returns-in_err-elements
expand_quantified-returns-in_err-elements t c =
    let p = c.args.source.now.problem.now in
    let sub = scope_view p c.args.scope.now in
    let elements = coll_expanded p (coll_view c.args.coll.now) sub in
    let f = formula_expanded (expansions_of p c.args.in_sight) p (formula_view c.args.f.now) (give c.args.v.now.name (a_subject (subjects.Variable c.args.next.now)) sub) (c.args.next.now + 1) in
    let r = err_from_is_err_and c.from_residual.result c.from_residual.ensures.1 in
    formula-forgone (plain.quantified c.args.kind c.args.next.now elements f) c.args.next.now c.args.room.now c.args.deep c.args.next.now c.take_node.new.room _ c.from_residual.result (r.1 ∙ ap (λ (f : ExpandFault). Err f) r.2) (c.in_err-elements.ensures {u = tt})

pub expand_quantified-returns-in_err-body : goal.expand_quantified-returns-in_err-body
expand_quantified-returns-in_err-body t c =
    let p = c.args.source.now.problem.now in
    let sub = scope_view p c.args.scope.now in
    let elements = coll_expanded p (coll_view c.args.coll.now) sub in
    let f = formula_expanded (expansions_of p c.args.in_sight) p (formula_view c.args.f.now) (give c.args.v.now.name (a_subject (subjects.Variable c.args.next.now)) sub) (c.args.next.now + 1) in
    let k = c.if-not-take_node.ensures {u = tt} in
    let r = err_from_is_err_and c.from_residual-in_err-body.result c.from_residual-in_err-body.ensures.1 in
    formula-lacks (plain.quantified c.args.kind c.args.next.now elements f) (nodes f) (depth f) 1 c.args.next.now c.args.room.now c.take_node.new.room c.args.deep c.expand_formula.new.next c.expand_formula.new.room _ c.from_residual-in_err-body.result (r.1 ∙ ap (λ (f : ExpandFault). Err f) r.2) k.0 (omega arith) (omega arith) k.1
    (subst (λ (s : Subst). IsLimitFault (nodes (formula_expanded (expansions_of p c.args.in_sight) p (formula_view c.args.f.now) s (c.args.next.now + 1))) (depth (formula_expanded (expansions_of p c.args.in_sight) p (formula_view c.args.f.now) s (c.args.next.now + 1))) c.take_node.new.room (c.args.deep - 1) c.in_err-body.field-0.0) (variable-seen p _ _ _) (c.in_err-body.ensures {u = tt}))

pub expand_quantified-returns : goal.expand_quantified-returns
expand_quantified-returns t c =
    let p = c.args.source.now.problem.now in
    let sub = scope_view p c.args.scope.now in
    let elements = coll_expanded p (coll_view c.args.coll.now) sub in
    let f = formula_expanded (expansions_of p c.args.in_sight) p (formula_view c.args.f.now) (give c.args.v.now.name (a_subject (subjects.Variable c.args.next.now)) sub) (c.args.next.now + 1) in
    quantified-made c.args.kind elements f c.args.next.now c.args.room.now c.take_node.new.room c.args.deep c.expand_formula.new.next c.expand_formula.new.room c.in_ok-elements.elements c.in_ok-body.body c.quantified.result (c.if-not-take_node.ensures {u = tt}) (c.in_ok-elements.ensures {u = tt})
    (subst (λ (s : Subst). FormulaMade (formula_expanded (expansions_of p c.args.in_sight) p (formula_view c.args.f.now) s (c.args.next.now + 1)) (c.args.next.now + 1) c.take_node.new.room (c.args.deep - 1) c.expand_formula.new.next c.expand_formula.new.room c.in_ok-body.body) (variable-seen p _ _ _) (c.in_ok-body.ensures {u = tt})) c.quantified.ensures

pub expand_formula-returns-in-True : goal.expand_formula-returns-in-True
expand_formula-returns-in-True t c =
    given-as (expansions_of c.args.source.now.problem.now c.args.in_sight) c.args.source.now.problem.now (scope_view c.args.source.now.problem.now c.args.scope.now) c.args.next.now c.args.room.now c.args.deep _ _ _ (truth-seen c.in-True.field-0 c.in-True.is) (c.truth.ensures c.args.next.now)

pub expand_formula-returns-in-False : goal.expand_formula-returns-in-False
expand_formula-returns-in-False t c =
    given-as (expansions_of c.args.source.now.problem.now c.args.in_sight) c.args.source.now.problem.now (scope_view c.args.source.now.problem.now c.args.scope.now) c.args.next.now c.args.room.now c.args.deep _ _ _ (falsehood-seen c.in-False.field-0 c.in-False.is) (c.falsehood.ensures c.args.next.now)

pub expand_each-loop-f-init : goal.expand_each-loop-f-init
expand_each-loop-f-init t c =
    subst (λ (parts : List PlainFormula). Continues (expansions_of c.args.source.now.problem.now c.args.in_sight) c.args.source.now.problem.now (formula_trees c.args.fs.now) (formula_trees c.args.fs.now) (scope_view c.args.source.now.problem.now c.args.scope.now) c.args.next.now c.args.room.now c.args.deep c.args.next.now c.args.room.now parts) (sym c.new-parts.ensures.items) (continues-init (expansions_of c.args.source.now.problem.now c.args.in_sight) c.args.source.now.problem.now (formula_trees c.args.fs.now) (scope_view c.args.source.now.problem.now c.args.scope.now) c.args.next.now c.args.room.now c.args.deep)

pub expand_each-returns-in_err-add_formula : goal.expand_each-returns-in_err-add_formula
expand_each-returns-in_err-add_formula t c =
    let r = err_from_is_err_and c.from_residual-in_err-add_formula.result c.from_residual-in_err-add_formula.ensures.1 in
    rw (r.1, r.2, c.in_err-add_formula.ensures {u = tt}) tt
