use Rattle.std.proofs.Common.{◌≡◌, ◌++◌, ◌+◌, [], ◌∷◌, map, ap, ◌∙◌, arith}
use Rattle.std.specs.List.{range_with_len}
use Rattle.std.proofs.lemmas.List.{map-append}
use Rattle.linear_conditions.specs.CondTree.{CondTree, cond_view}
use Rattle.problem_data.specs.ProblemView.{range_data}
use Rattle.rule_ground.specs.Own.{hole_condition, hole_behind}
use Rattle.rule_ground.proofs.Lists.{map-more, number-more}
use Rattle.rule_ground.proofs.own.push_holes.Goals as goal

pub loop-n-preserved : goal.loop-n-preserved
loop-n-preserved c =
    let o = c.args.o.0 in
    let d = c.args.d in
    let n = c.loop-n.n in
    let out = c.loop-n.out.items in
    let is : cond_view c.in_ok-hole.hole ≡ hole_behind o d (map range_data c.args.pieces.now) n =
    c.in_ok-hole.ensures ∙ (λ i. hole_condition o d (c.range_in-before.ensures.is i) (c.range_in-behind.ensures.is i))
    in
    map-more (hole_behind o d (map range_data c.args.pieces.now)) (range_with_len 0 n) (range_with_len 0 (n + 1)) n _ _ _
    (number-more 0 n (n + 1) n (omega arith) (omega arith)) c.loop-n.invariant
    (ap (map cond_view) c.in_ok-push.ensures.items ∙ map-append cond_view out (c.in_ok-hole.hole ∷ []) ∙ ap (λ (x : CondTree). map cond_view out ++ x ∷ []) is)
