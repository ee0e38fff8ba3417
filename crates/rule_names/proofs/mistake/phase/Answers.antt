use Rattle.std.proofs.Common.{refl}
use Rattle.rule_names.proofs.mistake.phase.Goals as goal

pub returns-in-WrongKind : goal.returns-in-WrongKind
returns-in-WrongKind c = rw c.in-WrongKind.is refl
