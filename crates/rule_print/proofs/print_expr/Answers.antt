use Rattle.rule_syntax.specs.View.{expr_view}
use Rattle.rule_print.proofs.ReadBack.{expr_reads_back}
use Rattle.rule_print.proofs.print_expr.Goals as goal

pub returns-in_err-spell_expression-clause-read_back : goal.returns-in_err-spell_expression-clause-read_back
returns-in_err-spell_expression-clause-read_back c = expr_reads_back (expr_view c.args.e.now)

pub returns-in_err-text-clause-read_back : goal.returns-in_err-text-clause-read_back
returns-in_err-text-clause-read_back c = expr_reads_back (expr_view c.args.e.now)

pub returns-clause-read_back : goal.returns-clause-read_back
returns-clause-read_back c = expr_reads_back (expr_view c.args.e.now)
