use Rattle.derivation_round_trip.proofs.ReadBack.{reads_back}
use Rattle.derivation_round_trip.proofs.laws.derivations_are_read_back.Goals as goal

pub returns : goal.returns
returns c = λ root named limited short. reads_back c.args.names.now c.dims-dims.ensures.whole root named limited short
