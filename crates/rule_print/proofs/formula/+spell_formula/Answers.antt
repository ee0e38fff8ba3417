use Rattle.std.proofs.Common.{ap, map}
use Rattle.geo_tokens.specs.declared.token.Sym.TheVariants as syms
use Rattle.rule_syntax.specs.Tree.{formulas}
use Rattle.rule_syntax.specs.View.{formula_view}
use Rattle.rule_print.specs.Canonical.{written}
use Rattle.rule_print.specs.Spelled.{formula_spelling, operands_spelling}
use Rattle.rule_syntax.proofs.Views.{truth-seen, falsehood-seen, negation-seen, all_of-seen, any_of-seen, implication-seen, equivalence-seen, comparison-seen, quantified-seen, formula_call-seen}
use Rattle.rule_print.proofs.Framed.{one_framed, two_framed, spelled_as, spelled_behind, range_behind}
use Rattle.rule_print.proofs.Loops.{operands-step, operands-end}
use Rattle.rule_print.proofs.formula.+spell_formula.Goals as goal

pub spell_operands-operands-preserved : goal.spell_operands-operands-preserved
spell_operands-operands-preserved t c =
    operands-step c.args.mark c.args.rank c.operands.is_first c.args.operands.now c.operands.operand-index c.operand-item.result _ _ _ _ c.operands-test.true c.operand-item.is (c.in_ok-push_mark.ensures {u = tt}) (c.in_ok-spell_formula.ensures {u = tt}) c.operands.invariant

pub spell_formula-returns-in_ok-spell_first-in-Implies : goal.spell_formula-returns-in_ok-spell_first-in-Implies
spell_formula-returns-in_ok-spell_first-in-Implies t c = two_framed c.spell_second.result _ _ _ _ _ _ _ _ _ _ (c.in_ok-spell_first-in-Implies.ensures {u = tt}) c.spell_second.ensures (ap (formula_spelling c.args.rank) (implication-seen c.in-Implies.field-0 c.in-Implies.first c.in-Implies.second c.in-Implies.is c.deref-in-Implies.ensures c.deref-in-Implies-2.ensures))

pub spell_formula-returns-in_ok-spell_first-in-Iff : goal.spell_formula-returns-in_ok-spell_first-in-Iff
spell_formula-returns-in_ok-spell_first-in-Iff t c = two_framed c.spell_second-in-Iff.result _ _ _ _ _ _ _ _ _ _ (c.in_ok-spell_first-in-Iff.ensures {u = tt}) c.spell_second-in-Iff.ensures (ap (formula_spelling c.args.rank) (equivalence-seen c.in-Iff.field-0 c.in-Iff.first c.in-Iff.second c.in-Iff.is c.deref-in-Iff.ensures c.deref-in-Iff-2.ensures))

pub spell_formula-returns-in-True : goal.spell_formula-returns-in-True
spell_formula-returns-in-True t c =
    spelled_as c.push_word.result _ _ _ _ (ap (formula_spelling c.args.rank) (truth-seen c.in-True.field-0 c.in-True.is)) c.push_word.ensures

pub spell_formula-returns-in-False : goal.spell_formula-returns-in-False
spell_formula-returns-in-False t c =
    spelled_as c.push_word-in-False.result _ _ _ _ (ap (formula_spelling c.args.rank) (falsehood-seen c.in-False.field-0 c.in-False.is)) c.push_word-in-False.ensures

pub spell_formula-returns-in-Not : goal.spell_formula-returns-in-Not
spell_formula-returns-in-Not t c =
    spelled_as c.spell_behind.result _ _ _ _ (ap (formula_spelling c.args.rank) (negation-seen c.in-Not.field-0 c.in-Not.inner c.in-Not.is c.deref.ensures)) c.spell_behind.ensures

pub spell_formula-returns-in-And : goal.spell_formula-returns-in-And
spell_formula-returns-in-And t c =
    spelled_as c.spell_joined.result _ _ _ _ (ap (formula_spelling c.args.rank) (all_of-seen c.in-And.field-0 c.in-And.operands c.in-And.is c.as_slice.ensures.value)) c.spell_joined.ensures

pub spell_formula-returns-in-Or : goal.spell_formula-returns-in-Or
spell_formula-returns-in-Or t c =
    spelled_as c.spell_joined-in-Or.result _ _ _ _ (ap (formula_spelling c.args.rank) (any_of-seen c.in-Or.field-0 c.in-Or.operands c.in-Or.is c.as_slice-in-Or.ensures.value)) c.spell_joined-in-Or.ensures

pub spell_formula-returns-in-Compare : goal.spell_formula-returns-in-Compare
spell_formula-returns-in-Compare t c =
    spelled_behind c.spell_comparison.result _ _ _ _ _ (ap (formula_spelling c.args.rank) (comparison-seen c.in-Compare.field-0 c.in-Compare.left c.in-Compare.rel c.in-Compare.right c.in-Compare.is c.deref-in-Compare.ensures c.deref-in-Compare-2.ensures)) c.spell_comparison.ensures

pub spell_formula-returns-in-Call : goal.spell_formula-returns-in-Call
spell_formula-returns-in-Call t c =
    spelled_as c.spell_call.result _ _ _ _ (ap (formula_spelling c.args.rank) (formula_call-seen c.in-Call.field-0 c.in-Call.name c.in-Call.arguments c.in-Call.is c.as_slice-in-Call.ensures.value)) c.spell_call.ensures

pub spell_formula-returns-in_ok-spell_range-in-Quant : goal.spell_formula-returns-in_ok-spell_range-in-Quant
spell_formula-returns-in_ok-spell_range-in-Quant t c =
    range_behind c.spell_formula.result _ _ _ _ _ _ _ _ _ _ (c.in_ok-spell_range-in-Quant.ensures {u = tt}) c.spell_formula.ensures (ap (formula_spelling c.args.rank) (quantified-seen c.in-Quant.field-0 c.in-Quant.kind c.in-Quant.variable c.in-Quant.coll c.in-Quant.body c.in-Quant.is c.deref-in-Quant.ensures))

pub spell_operands-returns : goal.spell_operands-returns
spell_operands-returns t c = operands-end c.args.mark c.args.rank c.operands.is_first c.args.operands.now c.operands.operand-index (map written c.operands.into.items) _ c.operands-test.false c.operands.invariant

pub spell_joined-returns : goal.spell_joined-returns
spell_joined-returns t c =
    one_framed c.push_if-2.result c.is_looser-in_brackets.result _ syms.BracketOpen syms.BracketClose (map written c.args.into.now.items) _ _ _ (operands_spelling c.args.mark c.args.inner (formulas (map formula_view c.args.operands.now))) c.is_looser-in_brackets.ensures
    (c.in_ok-push_if.ensures {u = tt}) (c.in_ok-spell_operands.ensures {u = tt}) c.push_if-2.ensures
