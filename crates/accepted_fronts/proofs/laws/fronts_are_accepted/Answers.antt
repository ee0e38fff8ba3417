use Rattle.accepted_fronts.proofs.Fronts.{has_front}
use Rattle.accepted_fronts.proofs.laws.fronts_are_accepted.Goals as goal

pub returns : goal.returns
returns c = λ text p a. has_front text p a
