use Rattle.rule_syntax.specs.View.{expr_view}
use Rattle.rule_syntax.proofs.Refusals.{call_refused}
use Rattle.rule_syntax.proofs.words.flat_call.Goals as goal

pub returns : goal.returns
returns c = call_refused expr_view c.refused_expression.result c.args.text.now c.args.tokens.now _ _ _ _ c.in-Some.ensures.2 c.in_ok-rest.ensures c.refused_expression.ensures
