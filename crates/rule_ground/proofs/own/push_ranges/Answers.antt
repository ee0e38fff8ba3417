use Rattle.std.proofs.Common.{◌+◌, ◌++◌, map, ap, ◌∙◌, arith}
use Rattle.std.specs.List.{range_with_len}
use Rattle.linear_conditions.specs.CondTree.{cond_view}
use Rattle.rule_ground.proofs.Lists.{flat-more, number-more}
use Rattle.rule_ground.specs.Own.{holes_at, holes_in}
use Rattle.rule_ground.proofs.own.push_ranges.Goals as goal

pub loop-d-preserved : goal.loop-d-preserved
loop-d-preserved c =
    flat-more (holes_at c.args.problem.now c.args.o.0) (range_with_len 0 c.loop-d.d) (range_with_len 0 (c.loop-d.d + 1)) c.loop-d.d _ _ _
    (number-more 0 c.loop-d.d (c.loop-d.d + 1) c.loop-d.d (omega arith) (omega arith)) c.loop-d.invariant
    (c.in_ok-push_holes.ensures ∙ ap (λ rs. map cond_view c.loop-d.out.items ++ holes_in c.args.o.0 c.loop-d.d rs) c.pieces.ensures.same)
