use Rattle.geo_conditions.proofs.Tuples.{refuted_false}
use Rattle.geo_conditions.proofs.laws.refuted_is_false.Goals as goal

pub returns : goal.returns
returns c = λ e S t fits inside refuted. refuted_false e t S fits inside refuted
