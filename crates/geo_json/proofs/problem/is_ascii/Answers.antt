use Rattle.geo_json.proofs.Ascii.{said_ascii}
use Rattle.geo_json.proofs.problem.is_ascii.Goals as goal

pub returns : goal.returns
returns c = said_ascii c.args.problem.now c.is_said.ensures.said
