use Rattle.std.proofs.Common.{arith}
use Rattle.serde_json.specs.View.{view}
use Rattle.geo_json.specs.LayoutJson.{layout_json}
use Rattle.geo_json.proofs.Plain.{line_text, line_again, layout_plain}
use Rattle.geo_json.proofs.line.layout_json_line.Goals as goal

pub returns-clause-text : goal.returns-clause-text
returns-clause-text c =
    line_text c.json_line.result (view c.in_ok-value.value) (layout_json c.args.problem.now c.args.layout.now) 4 (omega arith) c.in_ok-value.ensures (layout_plain c.args.problem.now c.args.layout.now) c.json_line.ensures.text

pub returns-clause-again : goal.returns-clause-again
returns-clause-again c =
    line_again c.json_line.result (view c.in_ok-value.value) (layout_json c.args.problem.now c.args.layout.now) 4 (omega arith) c.in_ok-value.ensures (layout_plain c.args.problem.now c.args.layout.now) c.json_line.ensures.again
