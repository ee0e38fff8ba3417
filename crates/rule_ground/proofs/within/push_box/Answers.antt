use Rattle.std.proofs.Common.{◌+◌, map, arith}
use Rattle.std.specs.List.{range_with_len}
use Rattle.rule_ground.proofs.Lists.{flat-more, number-more}
use Rattle.rule_ground.specs.Within.{within_in}
use Rattle.problem_data.specs.ProblemView.{range_data}
use Rattle.rule_ground.proofs.within.push_box.Goals as goal

pub loop-d-preserved : goal.loop-d-preserved
loop-d-preserved c =
    flat-more (within_in c.args.problem.now (map range_data c.args.ranges.now) c.args.at.object.0 c.args.at.place c.args.b.now) (range_with_len (0) (c.loop-d.d)) (range_with_len (0) (c.loop-d.d + 1)) (c.loop-d.d) _ _ _
    (number-more (0) (c.loop-d.d) (c.loop-d.d + 1) (c.loop-d.d) (omega arith) (omega arith)) c.loop-d.invariant c.in_ok-push_dimension.ensures
