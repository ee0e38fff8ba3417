use Rattle.std.proofs.Common.{ap, sym}
use Rattle.rule_print.specs.Spelled.{expr_level}
use Rattle.rule_print.proofs.rank.ExprRank.level.Goals as goal

pub returns-in-Product : goal.returns-in-Product
returns-in-Product c = sym (ap expr_level c.in-Product.is)

pub returns-in-Factor : goal.returns-in-Factor
returns-in-Factor c = sym (ap expr_level c.in-Factor.is)
