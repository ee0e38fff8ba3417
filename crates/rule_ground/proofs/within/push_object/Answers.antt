use Rattle.std.proofs.Common.{◌+◌, map, arith}
use Rattle.std.specs.List.{range_with_len}
use Rattle.rule_ground.proofs.Lists.{flat-more, number-more}
use Rattle.rule_ground.specs.Within.{within_at_place}
use Rattle.problem_data.specs.ProblemView.{range_data}
use Rattle.rule_ground.proofs.within.push_object.Goals as goal

pub loop-before-preserved : goal.loop-before-preserved
loop-before-preserved c =
    flat-more (within_at_place c.args.problem.now (map range_data c.args.ranges.now) c.args.o.0) (range_with_len (1) (c.loop-before.before)) (range_with_len (1) (c.loop-before.before + 1)) (c.loop-before.before + 1) _ _ _
    (number-more (1) (c.loop-before.before) (c.loop-before.before + 1) (c.loop-before.before + 1) (omega arith) (omega arith)) c.loop-before.invariant c.in_ok-push_shape.ensures
