use Rattle.std.proofs.Common.{◌≡◌, ◌+◌, ℕ, List, ◌++◌, pos, ap, ◌∙◌, arith, refl}
use Rattle.std.specs.List.{flat_map, range_with_len}
use Rattle.linear_conditions.specs.CondTree.{CondTree, at_least, conds}
use Rattle.rule_ground.proofs.Lists.{flat-more, number-more}
use Rattle.rule_ground.specs.Apart.{parted_in}
use Rattle.rule_ground.specs.Shapes.{other_shape}
use Rattle.linear_conditions.proofs.CondViews.{view-at_least}
use Rattle.rule_ground.proofs.apart.box_condition.Goals as goal

pub loop-d-preserved : goal.loop-d-preserved
loop-d-preserved c =
    flat-more (parted_in c.args.first.object.0 c.args.a.now c.args.second.object.0 c.args.b.now) (range_with_len 0 c.loop-d.d) (range_with_len 0 (c.loop-d.d + 1)) c.loop-d.d _ _ _
    (number-more 0 c.loop-d.d (c.loop-d.d + 1) c.loop-d.d refl (omega arith)) c.loop-d.invariant c.in_ok-push_parted.ensures

pub returns : goal.returns
returns c =
    let p = c.args.problem.now in
    let end : c.loop-d.d ≡ p.dims = let e = c.dims-d-end.ensures in omega (arith, e) in
    view-at_least (pos 1) c.loop-d.parts
    ∙ ap (λ (cs : List CondTree). at_least (pos 1) (conds cs)) (c.loop-d.invariant
    ∙ ap (λ (n : ℕ). (other_shape p c.args.first.object.0 c.args.first.place ++ other_shape p c.args.second.object.0 c.args.second.place) ++ flat_map (parted_in c.args.first.object.0 c.args.a.now c.args.second.object.0 c.args.b.now) (range_with_len 0 n)) end)
