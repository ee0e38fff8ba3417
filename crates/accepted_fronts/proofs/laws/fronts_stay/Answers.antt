use Rattle.accepted_fronts.proofs.Fronts.{has_front_there}
use Rattle.accepted_fronts.proofs.laws.fronts_stay.Goals as goal

pub returns : goal.returns
returns c = λ text more p a. has_front_there text p a more
