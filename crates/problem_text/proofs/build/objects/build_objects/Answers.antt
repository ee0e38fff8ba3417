use Rattle.std.proofs.Common.{sym, ◌∙◌}
use Rattle.std.specs.Vec.Iter.{into_iter_items}
use Rattle.problem_data.specs.View.{object_view}
use Rattle.problem_data.specs.Meaning.{object_of}
use Rattle.problem_data.proofs.Taken.{fewer, none_left, made_more, made_all}
use Rattle.problem_data.proofs.InLists.{map_twice}
use Rattle.problem_text.proofs.build.objects.build_objects.Goals as goal

pub returns : goal.returns
returns c =
    made_all (λ o. object_of c.args.met.now (object_view o)) c.loop-object.made.items (into_iter_items c.loop-object.object-iterator) _ (none_left (into_iter_items c.loop-object.object-iterator) _ c.loop-object.invariant.count c.in-None.ensures.steps.0) c.loop-object.invariant.left
    ∙ sym (map_twice (object_of c.args.met.now) object_view c.args.objects.items)

pub loop-object-preserved : goal.loop-object-preserved
loop-object-preserved c = record {
  count = fewer (into_iter_items c.loop-object.object-iterator) (into_iter_items c.next.new.self) c.in-Some.object _ _ c.in-Some.ensures.steps.0 c.in-Some.ensures.steps.1 c.loop-object.invariant.count;
  left = made_more (λ o. object_of c.args.met.now (object_view o)) c.loop-object.made.items c.push.new.self.items c.in_ok-one.one c.in-Some.object (into_iter_items c.loop-object.object-iterator) (into_iter_items c.next.new.self) _ c.in-Some.ensures.steps.0 c.in_ok-push.ensures.items c.in_ok-one.ensures c.loop-object.invariant.left;
}
