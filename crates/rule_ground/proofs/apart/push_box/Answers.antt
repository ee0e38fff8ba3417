use Rattle.std.proofs.Common.{List, ◌∷◌, [], ◌+◌, ◌++◌, map, take, ap, ◌∙◌}
use Rattle.std.proofs.lemmas.List.{map-append, take_all}
use Rattle.problem_data.specs.Problem.{BoxData}
use Rattle.linear_conditions.specs.CondTree.{CondTree, cond_view}
use Rattle.rule_ground.specs.Apart.{apart_condition}
use Rattle.rule_ground.proofs.Lists.{map-more, taken-more}
use Rattle.rule_ground.proofs.Placing.{box-small-at}
use Rattle.rule_ground.proofs.apart.push_box.Goals as goal

pub box_condition-requires-clause-small : goal.box_condition-requires-clause-small
box_condition-requires-clause-small c = (c.requires.small, box-small-at c.args.problem.now c.args.second.object.0 c.args.second.place c.boxes-others.result.now c.loop-b.b-index c.b-item.result c.requires.shapes c.boxes-others.ensures.same c.b-item.is c.loop-b-test.true)

pub loop-b-preserved : goal.loop-b-preserved
loop-b-preserved c =
    let all = c.boxes-others.result.now in
    let i = c.loop-b.b-index in
    let old = c.loop-b.out.items in
    map-more (apart_condition c.args.problem.now c.args.first.object.0 c.args.first.place c.args.second.object.0 c.args.second.place c.args.a.now) (take i all) (take (i + 1) all) c.b-item.result _ _ _
    (taken-more all i c.b-item.result c.b-item.is c.loop-b-test.true) c.loop-b.invariant
    (ap (map cond_view) c.in_ok-push.ensures.items ∙ map-append cond_view old (c.in_ok-box_condition.field-0 ∷ []) ∙ ap (λ (k : CondTree). map cond_view old ++ k ∷ []) c.in_ok-box_condition.ensures)

pub returns : goal.returns
returns c =
    c.loop-b.invariant
    ∙ ap (λ (bs : List BoxData). map cond_view c.args.out.now.items ++ map (apart_condition c.args.problem.now c.args.first.object.0 c.args.first.place c.args.second.object.0 c.args.second.place c.args.a.now) bs)
    (take_all c.loop-b.b-index c.boxes-others.result.now c.loop-b-test.false ∙ c.boxes-others.ensures.same)
