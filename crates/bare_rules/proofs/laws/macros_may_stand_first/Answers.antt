use Rattle.bare_rules.proofs.Sight.{first_keeps}
use Rattle.bare_rules.proofs.laws.macros_may_stand_first.Goals as goal

pub returns : goal.returns
returns c = λ p q same rise first. first_keeps p q same rise first
