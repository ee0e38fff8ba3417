use Rattle.statement_faults.proofs.Zeros.{two_lists}
use Rattle.statement_faults.proofs.divisors.lesser.Goals as goal

pub returns-clause-lists : goal.returns-clause-lists
returns-clause-lists c = λ ms ns f g. two_lists ms ns _ _ _ c.lesser_place.ensures f g
