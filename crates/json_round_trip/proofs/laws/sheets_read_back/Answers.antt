use Rattle.json_round_trip.proofs.Return.{sheet_again}
use Rattle.json_round_trip.proofs.laws.sheets_read_back.Goals as goal

pub returns : goal.returns
returns c = sheet_again c.args.problem.now c.is_said.ensures.said
