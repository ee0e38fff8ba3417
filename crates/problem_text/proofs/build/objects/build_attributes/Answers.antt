use Rattle.std.proofs.Common.{[], ◌∷◌, ◌∙◌, ap, map}
use Rattle.std.specs.Vec.Iter.{into_iter_items}
use Rattle.std.proofs.lemmas.List.{map-append}
use Rattle.problem_data.specs.ProblemView.{attribute_data}
use Rattle.problem_data.specs.Meaning.{attribute_of}
use Rattle.problem_data.proofs.Taken.{fewer, made_more}
use Rattle.problem_text.proofs.build.objects.build_attributes.Goals as goal

pub loop-attribute-preserved : goal.loop-attribute-preserved
loop-attribute-preserved c = record {
  count = fewer (into_iter_items c.loop-attribute.attribute-iterator) (into_iter_items c.next.new.self) c.in-Some.attribute _ _ c.in-Some.ensures.steps.0 c.in-Some.ensures.steps.1 c.loop-attribute.invariant.count;
  left = made_more attribute_of (map attribute_data c.loop-attribute.made.items) (map attribute_data c.push.new.self.items) (attribute_data c.build_attribute-one.result) c.in-Some.attribute (into_iter_items c.loop-attribute.attribute-iterator) (into_iter_items c.next.new.self) _ c.in-Some.ensures.steps.0 (ap (map attribute_data) c.in_ok-push.ensures.items ∙ map-append attribute_data c.loop-attribute.made.items (c.build_attribute-one.result ∷ [])) c.build_attribute-one.ensures c.loop-attribute.invariant.left;
}
