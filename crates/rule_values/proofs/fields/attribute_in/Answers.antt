use Rattle.std.proofs.Common.{◌∙◌, sym, arith, rules}
use Rattle.rule_values.proofs.Attributes.{attribute-skip, attribute-take, attribute-end}
use Rattle.rule_values.proofs.fields.attribute_in.Goals as goal

pub loop-attribute-preserved : goal.loop-attribute-preserved
loop-attribute-preserved c = attribute-skip c.args.name.now c.args.attributes.now c.loop-attribute.attribute-index c.attribute-item.result _ c.loop-attribute-test.true c.attribute-item.is (sym c.eq.ensures.value ∙ c.if-eq.false) c.loop-attribute.invariant

pub returns-then-eq : goal.returns-then-eq
returns-then-eq c =
    let h = attribute-take c.args.name.now c.args.attributes.now c.loop-attribute.attribute-index c.attribute-item.result _ c.loop-attribute-test.true c.attribute-item.is (sym c.eq.ensures.value ∙ c.if-eq.true) c.loop-attribute.invariant in
    search (rules, h)

pub returns : goal.returns
returns c = attribute-end c.args.name.now c.args.attributes.now c.loop-attribute.attribute-index _ (omega arith) c.loop-attribute.invariant
