use Rattle.rule_syntax.specs.View.{expr_view}
use Rattle.rule_syntax.proofs.Refusals.{extreme_refused}
use Rattle.rule_syntax.proofs.words.flat_extreme.Goals as goal

pub returns : goal.returns
returns c = extreme_refused expr_view c.refused_expression.result c.args.tokens.now _ _ c.in_ok-rest.ensures c.refused_expression.ensures
