use Rattle.std.proofs.Common.{sym, subst}
use Rattle.geo_tokens.specs.declared.fault.TextFault.{TextFault}
use Rattle.rule_syntax.specs.Grammar.{FormulaWords}
use Rattle.rule_syntax.specs.Reading.{formula_at}
use Rattle.rule_reading.specs.Outcome.{Refuses}
use Rattle.rule_syntax.specs.View.{formula_view}
use Rattle.std.proofs.Common.{length}
use Rattle.rule_reading.proofs.Formulas.{formula_good}
use Rattle.rule_reading.proofs.Limits.{formula_reading}
use Rattle.rule_reading.proofs.Outcomes.{value_in, has_value, stop_inside, stop_refuses}
use Rattle.rule_reading.proofs.read.read_formula.Goals as goal

pub overflow_sub-result : goal.overflow_sub-result
overflow_sub-result c = value_in (FormulaWords c.args.text.now) _ _ _ (formula_good c.args.text.now _).facts (formula_at c.args.text.now _) (formula_good c.args.text.now _).reads (formula_reading c.args.text.now _) c.args.list.now c.args.from c.requires c.left_from.result.now c.left_from.ensures (formula_view c.in-Ok.tree) c.in-Ok.rest.now c.in-Ok.ensures

pub fault_of-requires : goal.fault_of-requires
fault_of-requires c = stop_inside (FormulaWords c.args.text.now) _ _ _ (formula_good c.args.text.now _).facts (formula_at c.args.text.now _) (formula_good c.args.text.now _).reads (formula_reading c.args.text.now _) c.args.list.now c.args.from c.requires c.left_from.result.now c.left_from.ensures c.in-Err.stop c.in-Err.ensures

pub returns-in-Ok : goal.returns-in-Ok
returns-in-Ok c = has_value (FormulaWords c.args.text.now) _ _ _ (formula_good c.args.text.now _).facts (formula_at c.args.text.now _) (formula_good c.args.text.now _).reads (formula_reading c.args.text.now _) c.args.list.now c.args.from c.requires c.left_from.result.now c.left_from.ensures (formula_view c.in-Ok.tree) c.in-Ok.rest.now c.in-Ok.ensures

pub returns-in-Err : goal.returns-in-Err
returns-in-Err c =
    subst (λ (e : TextFault). Refuses e (FormulaWords c.args.text.now) _ (length c.args.text.now) c.args.list.now c.args.from) (sym c.fault_of.ensures)
    (stop_refuses (FormulaWords c.args.text.now) _ _ _ (formula_good c.args.text.now _).facts (formula_at c.args.text.now _) (formula_good c.args.text.now _).reads (formula_reading c.args.text.now _) c.args.list.now c.args.from c.requires c.left_from.result.now c.left_from.ensures (length c.args.text.now) c.in-Err.stop c.in-Err.ensures)
