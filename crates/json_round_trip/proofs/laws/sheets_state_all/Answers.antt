use Rattle.json_round_trip.proofs.Stated.{said_stated}
use Rattle.json_round_trip.proofs.laws.sheets_state_all.Goals as goal

pub returns : goal.returns
returns c = said_stated c.args.problem.now c.is_said.ensures.said
