use Rattle.std.proofs.Common.{sym, ◌∙◌}
use Rattle.std.specs.Vec.Iter.{into_iter_items}
use Rattle.problem_data.specs.View.{shape_view}
use Rattle.problem_data.specs.Meaning.{shape_of}
use Rattle.problem_data.proofs.Taken.{fewer, none_left, made_more, made_all}
use Rattle.problem_data.proofs.InLists.{map_twice}
use Rattle.problem_text.proofs.build.shapes.build_shapes.Goals as goal

pub returns : goal.returns
returns c =
    made_all (λ s. shape_of (shape_view s)) c.loop-shape.made.items (into_iter_items c.loop-shape.shape-iterator) _ (none_left (into_iter_items c.loop-shape.shape-iterator) _ c.loop-shape.invariant.count c.in-None.ensures.steps.0) c.loop-shape.invariant.left
    ∙ sym (map_twice shape_of shape_view c.args.shapes.items)

pub loop-shape-preserved : goal.loop-shape-preserved
loop-shape-preserved c = record {
  count = fewer (into_iter_items c.loop-shape.shape-iterator) (into_iter_items c.next.new.self) c.in-Some.shape _ _ c.in-Some.ensures.steps.0 c.in-Some.ensures.steps.1 c.loop-shape.invariant.count;
  left = made_more (λ s. shape_of (shape_view s)) c.loop-shape.made.items c.push.new.self.items c.in_ok-one.one c.in-Some.shape (into_iter_items c.loop-shape.shape-iterator) (into_iter_items c.next.new.self) _ c.in-Some.ensures.steps.0 c.in_ok-push.ensures.items c.in_ok-one.ensures c.loop-shape.invariant.left;
}
