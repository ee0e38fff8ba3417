use Rattle.std.proofs.Common.{◌++◌, ◌+◌, [], ◌∷◌, map, ap, ◌∙◌, arith}
use Rattle.std.specs.List.{range_with_len}
use Rattle.std.proofs.lemmas.List.{map-append}
use Rattle.linear_conditions.specs.CondTree.{CondTree, cond_view}
use Rattle.rule_ground.specs.Own.{origin_condition}
use Rattle.rule_ground.proofs.Lists.{map-more, number-more}
use Rattle.rule_ground.proofs.own.push_origin.Goals as goal

pub loop-d-preserved : goal.loop-d-preserved
loop-d-preserved c =
    let d = c.loop-d.d in
    let out = c.loop-d.out.items in
    map-more (origin_condition c.args.problem.now c.args.o.0) (range_with_len 0 d) (range_with_len 0 (d + 1)) d _ _ _
    (number-more 0 d (d + 1) d (omega arith) (omega arith)) c.loop-d.invariant
    (ap (map cond_view) c.in_ok-push.ensures.items ∙ map-append cond_view out (c.in_ok-origin.origin ∷ []) ∙ ap (λ (x : CondTree). map cond_view out ++ x ∷ []) c.in_ok-origin.ensures)
