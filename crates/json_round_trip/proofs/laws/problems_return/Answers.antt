use Rattle.json_round_trip.proofs.Return.{problem_returns}
use Rattle.json_round_trip.proofs.laws.problems_return.Goals as goal

pub returns : goal.returns
returns c = λ short h. problem_returns c.args.problem.now c.is_said.ensures.said h short
