use Rattle.rule_syntax.specs.View.{formula_view}
use Rattle.rule_print.proofs.ReadBack.{formula_reads_back}
use Rattle.rule_print.proofs.print_formula.Goals as goal

pub returns-in_err-spell_formula-clause-read_back : goal.returns-in_err-spell_formula-clause-read_back
returns-in_err-spell_formula-clause-read_back c = formula_reads_back (formula_view c.args.f.now)

pub returns-in_err-text-clause-read_back : goal.returns-in_err-text-clause-read_back
returns-in_err-text-clause-read_back c = formula_reads_back (formula_view c.args.f.now)

pub returns-clause-read_back : goal.returns-clause-read_back
returns-clause-read_back c = formula_reads_back (formula_view c.args.f.now)
