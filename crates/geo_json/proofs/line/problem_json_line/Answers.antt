use Rattle.std.proofs.Common.{arith}
use Rattle.serde_json.specs.View.{view}
use Rattle.json_sheets.specs.Sheet.{sheet_json}
use Rattle.json_sheets.proofs.Plain.{sheet_plain}
use Rattle.geo_json.specs.SheetOf.{sheet_of}
use Rattle.geo_json.proofs.Plain.{line_text, line_again}
use Rattle.geo_json.proofs.line.problem_json_line.Goals as goal

pub returns-clause-text : goal.returns-clause-text
returns-clause-text c =
    line_text c.json_line.result (view c.in_ok-value.value) (sheet_json (sheet_of c.args.problem.now)) 6 (omega arith) c.in_ok-value.ensures (sheet_plain (sheet_of c.args.problem.now)) c.json_line.ensures.text

pub returns-clause-again : goal.returns-clause-again
returns-clause-again c =
    line_again c.json_line.result (view c.in_ok-value.value) (sheet_json (sheet_of c.args.problem.now)) 6 (omega arith) c.in_ok-value.ensures (sheet_plain (sheet_of c.args.problem.now)) c.json_line.ensures.again
