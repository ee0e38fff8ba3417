use Rattle.geo_json.proofs.Tokens.{shaped, token_ascii}
use Rattle.geo_json.proofs.layout.is_shaped.Goals as goal

pub returns-clause-shaped : goal.returns-clause-shaped
returns-clause-shaped c = shaped c.args.problem.now c.args.layout.now c.requires

pub returns-clause-ascii : goal.returns-clause-ascii
returns-clause-ascii c = token_ascii c.args.problem.now c.args.layout.now c.is_said.ensures.formed c.requires
