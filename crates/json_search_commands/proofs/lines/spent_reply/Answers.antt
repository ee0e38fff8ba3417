use Rattle.json_search_commands.proofs.Plain.{line_is, budget_plain}
use Rattle.json_search_commands.proofs.lines.spent_reply.Goals as goal

pub returns-clause-text : goal.returns-clause-text
returns-clause-text c = line_is c.in_ok-json_line.field-0.items _ _ c.in_ok-value.ensures (budget_plain c.args.most) c.in_ok-json_line.ensures.text
