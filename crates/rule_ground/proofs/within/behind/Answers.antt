use Rattle.std.proofs.Common.{rules}
use Rattle.rule_ground.proofs.within.behind.Goals as goal

pub returns-clause-value : goal.returns-clause-value
returns-clause-value c = search rules
