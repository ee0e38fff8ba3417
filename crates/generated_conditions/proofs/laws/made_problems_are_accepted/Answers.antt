use Rattle.generated_conditions.proofs.Read.{made_accepted, made_conditions}
use Rattle.generated_conditions.proofs.laws.made_problems_are_accepted.Goals as goal

pub returns-clause-accepted : goal.returns-clause-accepted
returns-clause-accepted c = made_accepted c.args.seed

pub returns-clause-each : goal.returns-clause-each
returns-clause-each c = made_conditions c.args.seed
