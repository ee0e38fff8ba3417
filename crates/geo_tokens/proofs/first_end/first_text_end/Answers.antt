use Rattle.geo_tokens.proofs.Ends.{only_end}
use Rattle.geo_tokens.proofs.first_end.first_text_end.Goals as goal

pub returns-clause-only : goal.returns-clause-only
returns-clause-only c = only_end c.find_end.result c.args.text.now c.find_end.ensures.value
