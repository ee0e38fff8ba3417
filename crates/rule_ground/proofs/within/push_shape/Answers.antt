use Rattle.std.proofs.Common.{List, ◌+◌, ◌++◌, map, take, ap, ◌∙◌}
use Rattle.std.specs.List.{flat_map}
use Rattle.std.proofs.lemmas.List.{take_all}
use Rattle.problem_data.specs.Problem.{BoxData}
use Rattle.problem_data.specs.ProblemView.{range_data}
use Rattle.linear_conditions.specs.CondTree.{cond_view}
use Rattle.rule_ground.specs.Within.{within_of_box}
use Rattle.rule_ground.proofs.Lists.{flat-more, taken-more}
use Rattle.rule_ground.proofs.Placing.{box-small-at}
use Rattle.rule_ground.proofs.within.push_shape.Goals as goal

pub push_box-requires-clause-small : goal.push_box-requires-clause-small
push_box-requires-clause-small c = box-small-at c.args.problem.now c.args.at.object.0 c.args.at.place c.boxes-own.result.now c.loop-b.b-index c.b-item.result c.requires.shapes c.boxes-own.ensures.same c.b-item.is c.loop-b-test.true

pub loop-b-preserved : goal.loop-b-preserved
loop-b-preserved c =
    let all = c.boxes-own.result.now in
    let i = c.loop-b.b-index in
    flat-more (within_of_box c.args.problem.now (map range_data c.args.ranges.now) c.args.at.object.0 c.args.at.place) (take i all) (take (i + 1) all) c.b-item.result _ _ _
    (taken-more all i c.b-item.result c.b-item.is c.loop-b-test.true) c.loop-b.invariant c.in_ok-push_box.ensures

pub returns : goal.returns
returns c =
    c.loop-b.invariant
    ∙ ap (λ (bs : List BoxData). map cond_view c.args.out.now.items ++ flat_map (within_of_box c.args.problem.now (map range_data c.args.ranges.now) c.args.at.object.0 c.args.at.place) bs)
    (take_all c.loop-b.b-index c.boxes-own.result.now c.loop-b-test.false ∙ c.boxes-own.ensures.same)
