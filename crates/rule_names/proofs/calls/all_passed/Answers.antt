use Rattle.std.proofs.Common.{arith}
use Rattle.rule_names.specs.ScopeView.{scope_view}
use Rattle.rule_names.proofs.Passed.{passed-step, passed-short, passed-end}
use Rattle.rule_names.proofs.calls.all_passed.Goals as goal

pub params-preserved : goal.params-preserved
params-preserved c =
    passed-step c.args.problem.now (scope_view c.args.scope.now) c.args.params.now c.args.given.now c.params.i c.index-params-i.result c.index-given-i.result _ _ _ _ (omega arith) c.index-params-i.is (omega arith) c.index-given-i.is c.earlier-found.ensures.value c.passed_mistake-here.ensures c.params.invariant

pub returns-then-i-given : goal.returns-then-i-given
returns-then-i-given c = passed-short c.args.problem.now (scope_view c.args.scope.now) c.args.params.now c.args.given.now c.params.i _ _ (omega arith) c.params.invariant

pub returns : goal.returns
returns c = passed-end c.args.problem.now (scope_view c.args.scope.now) c.args.params.now c.args.given.now c.params.i _ _ (omega arith) c.params.invariant
