use Rattle.geo_tokens.proofs.Fronts.{front_inside}
use Rattle.geo_tokens.proofs.front.next_front.Goals as goal

pub returns-clause-inside : goal.returns-clause-inside
returns-clause-inside c = front_inside c.front_of.result c.args.bytes.now c.front_of.ensures
