use Rattle.std.proofs.Common.{◌∙◌, ◌||◌, sym, ap}
use Rattle.std.specs.List.{list_any}
use Rattle.std.specs.Str.{bytes_eq}
use Rattle.problem_data.proofs.MetNames.{meet_any}
use Rattle.rule_names.proofs.Attributes.{any-step, any-all, any-attributes}
use Rattle.rule_names.proofs.table.add_attributes.Goals as goal

pub loop-attribute-preserved : goal.loop-attribute-preserved
loop-attribute-preserved c = λ n.
    any-step (λ a. bytes_eq n a.name) c.attributes-attributes.result.now c.loop-attribute.attribute-index c.attribute-item.result _ _ _ _ c.loop-attribute-test.true c.attribute-item.is (c.loop-attribute.invariant n) (ap (bytes_eq n) c.as_bytes.ensures)
    (ap (list_any (bytes_eq n)) c.in_ok-_is_new.ensures.met ∙ meet_any n c.loop-attribute.names c.as_bytes.result.now)

pub returns : goal.returns
returns c = λ n.
    any-all (λ a. bytes_eq n a.name) c.attributes-attributes.result.now c.loop-attribute.attribute-index _ _ c.loop-attribute-test.false (c.loop-attribute.invariant n)
    ∙ ap (λ b. list_any (bytes_eq n) c.args.names.now || b) (sym (any-attributes n c.attributes-attributes.result.now) ∙ ap (list_any (λ a. bytes_eq n a.name)) c.attributes-attributes.ensures)
