use Rattle.std.proofs.Common.{◌∙◌, sym, arith}
use Rattle.rule_names.proofs.Sights.{sight-skip, sight-take, sight-end}
use Rattle.rule_names.proofs.scope.kind_of_parameter.Goals as goal

pub loop-param-preserved : goal.loop-param-preserved
loop-param-preserved c = sight-skip c.args.problem.now c.args.params.now c.loop-param.param-index c.param-item.result c.args.name.now _ c.loop-param-test.true c.param-item.is (sym c.eq.ensures.value ∙ c.if-eq.false) c.loop-param.invariant

pub returns-then-eq : goal.returns-then-eq
returns-then-eq c = sight-take c.args.problem.now c.args.params.now c.loop-param.param-index c.param-item.result c.args.name.now _ c.loop-param-test.true c.param-item.is (sym c.eq.ensures.value ∙ c.if-eq.true) c.loop-param.invariant

pub returns : goal.returns
returns c = c.kind_of_object.ensures ∙ sight-end c.args.problem.now c.args.params.now c.loop-param.param-index c.args.name.now _ (omega arith) c.loop-param.invariant
