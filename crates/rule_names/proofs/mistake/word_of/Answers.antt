use Rattle.std.proofs.Common.{refl}
use Rattle.rule_names.proofs.mistake.word_of.Goals as goal

pub returns-in-WrongCount : goal.returns-in-WrongCount
returns-in-WrongCount c = rw c.in-WrongCount.is refl
