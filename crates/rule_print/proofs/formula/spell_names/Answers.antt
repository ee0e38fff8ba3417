use Rattle.rule_print.proofs.Loops.{names-step, names-end}
use Rattle.rule_print.proofs.formula.spell_names.Goals as goal

pub names-preserved : goal.names-preserved
names-preserved c =
    names-step c.names.is_first c.args.names.now c.names.name-index c.name-item.result _ _ _ _ c.names-test.true c.name-item.is (c.in_ok-push_if.ensures {u = tt}) (c.in_ok-push_name.ensures {u = tt}) c.names.invariant

pub returns : goal.returns
returns c = names-end c.names.is_first c.args.names.now c.names.name-index _ _ c.names-test.false c.names.invariant
