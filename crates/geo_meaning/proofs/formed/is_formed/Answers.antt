use Rattle.rule_ground.proofs.Said.{said-rules}
use Rattle.geo_meaning.proofs.formed.is_formed.Goals as goal

pub returns-clause-rules : goal.returns-clause-rules
returns-clause-rules c = said-rules c.args.problem.now c.is_said.ensures.said
