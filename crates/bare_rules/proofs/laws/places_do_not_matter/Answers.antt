use Rattle.bare_rules.proofs.Again.{conditions_again}
use Rattle.bare_rules.proofs.laws.places_do_not_matter.Goals as goal

pub returns : goal.returns
returns c = conditions_again
