use Rattle.rule_names.proofs.Firsts.{two_lists}
use Rattle.rule_names.proofs.mistake.earlier.Goals as goal

pub returns-clause-lists : goal.returns-clause-lists
returns-clause-lists c = λ ms ns f g. two_lists ms ns _ _ _ c.earlier.ensures f g
