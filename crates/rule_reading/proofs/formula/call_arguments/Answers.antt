use Rattle.std.proofs.Common.{List, sym, subst, arith}
use Rattle.geo_tokens.specs.Gives.{Gives}
use Rattle.geo_tokens.specs.Reading.{Read}
use Rattle.rule_syntax.specs.Tree.{ArgumentTree}
use Rattle.rule_syntax.specs.View.{argument_views}
use Rattle.rule_reading.proofs.Formulas.{args_flat, args_nested}
use Rattle.rule_reading.proofs.formula.call_arguments.Goals as goal

pub returns-then-levels-eq0 : goal.returns-then-levels-eq0
returns-then-levels-eq0 c =
    subst (λ (r : Read (List ArgumentTree)). Gives argument_views c.refused_arguments.result r) (sym (args_flat c.args.text.now c.args.levels c.args.tokens.now (omega arith))) c.refused_arguments.ensures

pub returns-else-levels-eq0 : goal.returns-else-levels-eq0
returns-else-levels-eq0 c =
    subst (λ (r : Read (List ArgumentTree)). Gives argument_views c.arguments.result r) (sym (args_nested c.args.text.now c.args.levels c.args.tokens.now (omega arith))) c.arguments.ensures
