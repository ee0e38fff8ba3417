use Rattle.json_sheets.proofs.Alike.{one_built}
use Rattle.json_round_trip.proofs.Spelled.{line_spells}
use Rattle.json_round_trip.proofs.laws.lines_spell.Goals as goal

pub returns-clause-spells : goal.returns-clause-spells
returns-clause-spells c = line_spells c.args.problem.now c.is_said.ensures.said

pub returns-clause-only : goal.returns-clause-only
returns-clause-only c = λ text h. one_built _ text _ h (line_spells c.args.problem.now c.is_said.ensures.said)
