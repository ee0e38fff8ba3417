use Rattle.std.proofs.Common.{sym, ◌∙◌}
use Rattle.std.specs.Vec.Iter.{into_iter_items}
use Rattle.problem_data.specs.View.{macro_view}
use Rattle.problem_data.specs.Meaning.{macro_of}
use Rattle.problem_data.proofs.Taken.{fewer, none_left, made_more, made_all}
use Rattle.problem_data.proofs.InLists.{map_twice}
use Rattle.problem_text.proofs.build.rules.build_macros.Goals as goal

pub returns : goal.returns
returns c =
    made_all (λ m. macro_of (macro_view m)) c.loop-said.made.items (into_iter_items c.loop-said.said-iterator) _ (none_left (into_iter_items c.loop-said.said-iterator) _ c.loop-said.invariant.count c.in-None.ensures.steps.0) c.loop-said.invariant.left
    ∙ sym (map_twice macro_of macro_view c.args.macros.items)

pub loop-said-preserved : goal.loop-said-preserved
loop-said-preserved c = record {
  count = fewer (into_iter_items c.loop-said.said-iterator) (into_iter_items c.next.new.self) c.in-Some.said _ _ c.in-Some.ensures.steps.0 c.in-Some.ensures.steps.1 c.loop-said.invariant.count;
  left = made_more (λ m. macro_of (macro_view m)) c.loop-said.made.items c.push.new.self.items c.in_ok-one.one c.in-Some.said (into_iter_items c.loop-said.said-iterator) (into_iter_items c.next.new.self) _ c.in-Some.ensures.steps.0 c.in_ok-push.ensures.items c.in_ok-one.ensures c.loop-said.invariant.left;
}
