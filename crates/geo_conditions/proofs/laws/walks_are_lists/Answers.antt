use Rattle.geo_conditions.proofs.Tokens.{every_walk}
use Rattle.geo_conditions.proofs.laws.walks_are_lists.Goals as goal

pub returns : goal.returns
returns c = every_walk
