use Rattle.std.proofs.Common.{map, refl}
use Rattle.problem_data.specs.ProblemView.{attribute_data}
use Rattle.problem_text.specs.Canonical.{attribute_spelling}
use Rattle.problem_text.proofs.PrintingLists.{left_listed, comma_joined, comma_joined_end, none_left}
use Rattle.problem_text.proofs.print.part.spell_attribute_list.Goals as goal

pub attributes-preserved : goal.attributes-preserved
attributes-preserved c =
    comma_joined (λ b xs. left_listed b attribute_spelling (map attribute_data xs)) (λ x. attribute_spelling (attribute_data x)) (λ x xs. refl) (λ x xs. refl) c.attributes.is_first c.args.attributes.now c.attributes.attribute-index c.attribute-item.result _ _ _ _ c.attributes-test.true c.attribute-item.is (c.in_ok-push_if.ensures {u = tt}) (c.in_ok-spell_attribute.ensures {u = tt}) c.attributes.invariant

pub returns : goal.returns
returns c =
    comma_joined_end (λ b xs. left_listed b attribute_spelling (map attribute_data xs)) (none_left attribute_spelling) c.attributes.is_first c.args.attributes.now c.attributes.attribute-index _ _ c.attributes-test.false c.attributes.invariant
