use Rattle.std.proofs.Common.{◌∙◌, ap}
use Rattle.rule_names.specs.Names.{differs}
use Rattle.rule_names.specs.ScopeView.{scope_view}
use Rattle.rule_names.proofs.Passed.{called}
use Rattle.rule_names.proofs.calls.call_of_macro.Goals as goal

pub returns : goal.returns
returns c =
    called c.args.problem.now (scope_view c.args.scope.now) c.args.formula c.args.place c.args.given.now c.args.called.now c.params-params.result.now _ _ _ _ _ _ _
    c.params-params.ensures c.body.ensures (c.differs-marked.ensures ∙ ap (differs c.args.formula) c.is_formula.ensures) c.mistake_if-kind.ensures c.mistake_if-count.ensures c.earlier-marks.ensures.value c.all_passed-passed.ensures c.earlier.ensures.value
