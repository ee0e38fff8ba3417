use Rattle.std.proofs.Common.{refl}
use Rattle.geo_meaning.proofs.judging.rule_number.Goals as goal

pub returns : goal.returns
returns c = refl
