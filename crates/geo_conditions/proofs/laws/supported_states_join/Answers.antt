use Rattle.geo_conditions.proofs.Join.{same_shape, left_inside, right_inside, join_supported}
use Rattle.geo_conditions.proofs.laws.supported_states_join.Goals as goal

pub returns : goal.returns
returns c = λ k cs S T s t e u v. let a = same_shape k S T s t e in (left_inside S T a, right_inside S T a, join_supported cs S T a u v)
