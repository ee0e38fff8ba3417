use Rattle.geo_conditions.proofs.Beginnings.{front_begins, beginning_front}
use Rattle.geo_conditions.proofs.laws.fronts_begin_the_walk.Goals as goal

pub returns : goal.returns
returns c = λ W w u walk. (front_begins W w u walk, beginning_front W w u walk)
