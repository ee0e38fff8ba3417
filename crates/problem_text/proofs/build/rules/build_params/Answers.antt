use Rattle.std.proofs.Common.{[], ◌∷◌, ◌∙◌, ap, map}
use Rattle.std.specs.Vec.Iter.{into_iter_items}
use Rattle.std.proofs.lemmas.List.{map-append}
use Rattle.problem_data.specs.ProblemView.{param_data}
use Rattle.problem_data.specs.Meaning.{param_of}
use Rattle.problem_data.proofs.Taken.{fewer, made_more}
use Rattle.problem_text.proofs.build.rules.build_params.Goals as goal

pub loop-param-preserved : goal.loop-param-preserved
loop-param-preserved c = record {
  count = fewer (into_iter_items c.loop-param.param-iterator) (into_iter_items c.next.new.self) c.in-Some.param _ _ c.in-Some.ensures.steps.0 c.in-Some.ensures.steps.1 c.loop-param.invariant.count;
  left = made_more param_of (map param_data c.loop-param.made.items) (map param_data c.push.new.self.items) (param_data c.build_param-one.result) c.in-Some.param (into_iter_items c.loop-param.param-iterator) (into_iter_items c.next.new.self) _ c.in-Some.ensures.steps.0 (ap (map param_data) c.in_ok-push.ensures.items ∙ map-append param_data c.loop-param.made.items (c.build_param-one.result ∷ [])) c.build_param-one.ensures c.loop-param.invariant.left;
}
