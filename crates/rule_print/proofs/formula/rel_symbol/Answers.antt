use Rattle.std.proofs.Common.{ap, sym}
use Rattle.rule_print.specs.Spelled.{rel_symbol}
use Rattle.rule_print.proofs.formula.rel_symbol.Goals as goal

pub returns-in-Le : goal.returns-in-Le
returns-in-Le c = sym (ap rel_symbol c.in-Le.is)
