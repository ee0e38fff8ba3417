use Rattle.json_search_commands.proofs.Plain.{line_is, none_plain}
use Rattle.json_search_commands.proofs.lines.none_reply.Goals as goal

pub returns-clause-text : goal.returns-clause-text
returns-clause-text c = line_is c.in_ok-json_line.field-0.items _ _ c.in_ok-value.ensures (none_plain c.args.lines.now) c.in_ok-json_line.ensures.text
