use Rattle.std.proofs.Common.{List, ◌+◌, ◌++◌, map, take, ap, ◌∙◌}
use Rattle.std.specs.List.{flat_map}
use Rattle.std.proofs.lemmas.List.{take_all}
use Rattle.problem_data.specs.Problem.{BoxData}
use Rattle.linear_conditions.specs.CondTree.{cond_view}
use Rattle.rule_ground.specs.Apart.{apart_from_box}
use Rattle.rule_ground.proofs.Lists.{flat-more, taken-more}
use Rattle.rule_ground.proofs.Placing.{box-small-at}
use Rattle.rule_ground.proofs.apart.push_shapes.Goals as goal

pub push_box-requires-clause-small : goal.push_box-requires-clause-small
push_box-requires-clause-small c = box-small-at c.args.problem.now c.args.first.object.0 c.args.first.place c.boxes-own.result.now c.loop-a.a-index c.a-item.result c.requires.shapes c.boxes-own.ensures.same c.a-item.is c.loop-a-test.true

pub loop-a-preserved : goal.loop-a-preserved
loop-a-preserved c =
    let all = c.boxes-own.result.now in
    let i = c.loop-a.a-index in
    flat-more (apart_from_box c.args.problem.now c.args.first.object.0 c.args.first.place c.args.second.object.0 c.args.second.place) (take i all) (take (i + 1) all) c.a-item.result _ _ _
    (taken-more all i c.a-item.result c.a-item.is c.loop-a-test.true) c.loop-a.invariant c.in_ok-push_box.ensures

pub returns : goal.returns
returns c =
    c.loop-a.invariant
    ∙ ap (λ (bs : List BoxData). map cond_view c.args.out.now.items ++ flat_map (apart_from_box c.args.problem.now c.args.first.object.0 c.args.first.place c.args.second.object.0 c.args.second.place) bs)
    (take_all c.loop-a.a-index c.boxes-own.result.now c.loop-a-test.false ∙ c.boxes-own.ensures.same)
