use Rattle.json_round_trip.proofs.Problems.{one_text, one_sheet}
use Rattle.json_round_trip.proofs.laws.places_are_not_written.Goals as goal

pub returns-clause-text : goal.returns-clause-text
returns-clause-text c = one_text

pub returns-clause-sheet : goal.returns-clause-sheet
returns-clause-sheet c = one_sheet
