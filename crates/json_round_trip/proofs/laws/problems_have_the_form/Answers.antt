use Rattle.std.proofs.Common.{refl}
use Rattle.json_sheets.specs.Sheet.{sheet_json}
use Rattle.json_sheets.proofs.Alike.{spelled_is}
use Rattle.geo_json.specs.SheetOf.{sheet_of}
use Rattle.json_round_trip.proofs.Right.{sheet_right}
use Rattle.json_round_trip.proofs.laws.problems_have_the_form.Goals as goal

pub returns-clause-form : goal.returns-clause-form
returns-clause-form c = sheet_right c.args.problem.now c.is_said.ensures.said

pub returns-clause-spells : goal.returns-clause-spells
returns-clause-spells c = record { sheet = sheet_of c.args.problem.now; right = sheet_right c.args.problem.now c.is_said.ensures.said; value = refl; says = refl }

pub returns-clause-only : goal.returns-clause-only
returns-clause-only c = λ text h. spelled_is (sheet_json (sheet_of c.args.problem.now)) text (sheet_of c.args.problem.now) h refl
