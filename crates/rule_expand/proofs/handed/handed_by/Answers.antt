use Rattle.std.proofs.Common.{◌∙◌, ap, sym, length}
use Rattle.rule_syntax.specs.View.{expr_view}
use Rattle.problem_data.specs.View.{body_view}
use Rattle.rule_expand.proofs.HandedOn.{hands-on}
use Rattle.rule_expand.proofs.handed.handed_by.Goals as goal

pub returns-in-Is : goal.returns-in-Is
returns-in-Is c =
    hands-on c.args.problem.now (length c.args.handed.now) (expr_view c.in-Is.e) c.args.it.now c.params.result.now c.parameter_of.result c.requires.next (sym (ap body_view c.in-Is.is) ∙ c.body.ensures) c.params.ensures c.parameter_of.ensures
