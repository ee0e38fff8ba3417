use Rattle.geo_conditions.proofs.Layouts.{values_tell}
use Rattle.geo_conditions.proofs.laws.values_tell_tuples.Goals as goal

pub returns : goal.returns
returns c = values_tell
