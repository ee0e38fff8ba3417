use Rattle.geo_tokens.proofs.Cuts.{only_answer, ordered}
use Rattle.geo_tokens.proofs.lexer.tokens.Goals as goal

pub returns-clause-only : goal.returns-clause-only
returns-clause-only c = only_answer c.cut.result c.args.text.now c.cut.ensures

pub returns-clause-in_order : goal.returns-clause-in_order
returns-clause-in_order c = ordered c.cut.result c.args.text.now c.cut.ensures
