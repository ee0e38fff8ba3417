use Rattle.std.proofs.Common.{sym, subst}
use Rattle.geo_tokens.specs.declared.fault.TextFault.{TextFault}
use Rattle.rule_syntax.specs.Grammar.{ExprWords}
use Rattle.rule_syntax.specs.Reading.{expr_at}
use Rattle.rule_reading.specs.Outcome.{Refuses}
use Rattle.rule_syntax.specs.View.{expr_view}
use Rattle.std.proofs.Common.{length}
use Rattle.rule_syntax.proofs.Expressions.{expr_good}
use Rattle.rule_reading.proofs.Limits.{expr_reading}
use Rattle.rule_reading.proofs.Outcomes.{value_in, has_value, stop_inside, stop_refuses}
use Rattle.rule_reading.proofs.read.read_expr.Goals as goal

pub overflow_sub-result : goal.overflow_sub-result
overflow_sub-result c = value_in (ExprWords c.args.text.now) 64 _ _ (expr_good c.args.text.now 64).facts (expr_at c.args.text.now 64) (expr_good c.args.text.now 64).reads (expr_reading c.args.text.now 64) c.args.list.now c.args.from c.requires c.left_from.result.now c.left_from.ensures (expr_view c.in-Ok.tree) c.in-Ok.rest.now c.in-Ok.ensures

pub fault_of-requires : goal.fault_of-requires
fault_of-requires c = stop_inside (ExprWords c.args.text.now) 64 _ _ (expr_good c.args.text.now 64).facts (expr_at c.args.text.now 64) (expr_good c.args.text.now 64).reads (expr_reading c.args.text.now 64) c.args.list.now c.args.from c.requires c.left_from.result.now c.left_from.ensures c.in-Err.stop c.in-Err.ensures

pub returns-in-Ok : goal.returns-in-Ok
returns-in-Ok c = has_value (ExprWords c.args.text.now) 64 _ _ (expr_good c.args.text.now 64).facts (expr_at c.args.text.now 64) (expr_good c.args.text.now 64).reads (expr_reading c.args.text.now 64) c.args.list.now c.args.from c.requires c.left_from.result.now c.left_from.ensures (expr_view c.in-Ok.tree) c.in-Ok.rest.now c.in-Ok.ensures

pub returns-in-Err : goal.returns-in-Err
returns-in-Err c =
    subst (λ (e : TextFault). Refuses e (ExprWords c.args.text.now) 64 (length c.args.text.now) c.args.list.now c.args.from) (sym c.fault_of.ensures)
    (stop_refuses (ExprWords c.args.text.now) 64 _ _ (expr_good c.args.text.now 64).facts (expr_at c.args.text.now 64) (expr_good c.args.text.now 64).reads (expr_reading c.args.text.now 64) c.args.list.now c.args.from c.requires c.left_from.result.now c.left_from.ensures (length c.args.text.now) c.in-Err.stop c.in-Err.ensures)
