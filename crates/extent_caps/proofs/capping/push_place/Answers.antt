use Rattle.std.proofs.Common.{List, ◌+◌, ℤ, map, take, subst, ◌∙◌, to_z, of_z, to_z-of_z, w64}
use Rattle.std.proofs.lemmas.List.{take_all}
use Rattle.problem_data.specs.Problem.{BoxData}
use Rattle.rule_values.specs.Shapes.{boxes_at}
use Rattle.rule_ground.proofs.Lists.{taken-more}
use Rattle.rule_ground.proofs.Placing.{box-small-at}
use Rattle.extent_caps.specs.Capped.{Adds}
use Rattle.extent_caps.specs.Extents.{cap}
use Rattle.extent_caps.proofs.Adding.{adds-none, adds-map}
use Rattle.extent_caps.proofs.capping.push_place.Goals as goal

pub cap-requires-clause-small : goal.cap-requires-clause-small
cap-requires-clause-small c = box-small-at c.args.problem.now c.args.at.object.0 c.args.at.place c.boxes-own.result.now c.loop-b.b-index c.b-item.result c.requires.shapes c.boxes-own.ensures.same c.b-item.is c.loop-b-test.true

pub loop-b-init : goal.loop-b-init
loop-b-init c = adds-none _

pub loop-b-preserved : goal.loop-b-preserved
loop-b-preserved c =
    let all = c.boxes-own.result.now in
    let i = c.loop-b.b-index in
    adds-map (cap c.args.problem.now c.args.d (to_z w64 (of_z w64 c.args.e)) c.args.at.object.0 c.args.at.place) (take i all) (take (i + 1) all) c.b-item.result _ _ _ _ (taken-more all i c.b-item.result c.b-item.is c.loop-b-test.true) c.loop-b.invariant
    c.in_ok-push.ensures.items c.in_ok-cap.ensures

pub returns : goal.returns
returns c =
    let Added : ℤ → List BoxData → Type 0 = λ z bs. Adds (map (cap c.args.problem.now c.args.d z c.args.at.object.0 c.args.at.place) bs) c.args.conditions.now.items c.loop-b.conditions.items in
    let all = take_all c.loop-b.b-index c.boxes-own.result.now c.loop-b-test.false ∙ c.boxes-own.ensures.same in
    subst (λ (z : ℤ). Added z (boxes_at c.args.problem.now c.args.at.object.0 c.args.at.place)) (to_z-of_z {w = w64} {z = c.args.e} c.ranges.e) (subst (Added (to_z w64 (of_z w64 c.args.e))) all c.loop-b.invariant)
