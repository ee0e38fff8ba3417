use Rattle.std.proofs.Common.{false, refl, ap, ◌∙◌, arith}
use Rattle.std.specs.List.{list_any}
use Rattle.std.specs.Str.{bytes_eq}
use Rattle.rule_names.specs.Sight.{lists_attribute}
use Rattle.rule_names.proofs.Attributes.{any-step, any-all}
use Rattle.rule_names.proofs.table.attribute_names.Goals as goal

pub loop-object-init : goal.loop-object-init
loop-object-init c = λ n. ap (list_any (bytes_eq n)) (c.in_ok-names.ensures.ok ∙ c.new.ensures)

pub loop-object-preserved : goal.loop-object-preserved
loop-object-preserved c = λ n.
    any-step (λ o. lists_attribute o n) c.args.objects.now c.loop-object.object-index c.object-item.result false _ _ _ c.loop-object-test.true c.object-item.is (ap (list_any (bytes_eq n)) c.deref_mut.ensures.value ∙ c.loop-object.invariant n) refl (c.in_ok-add_attributes.ensures n)

pub returns : goal.returns
returns c = λ n. any-all (λ o. lists_attribute o n) c.args.objects.now c.loop-object.object-index _ false (omega arith) (c.loop-object.invariant n)
