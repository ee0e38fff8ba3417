use Rattle.std.proofs.Common.{◌+◌, map, arith}
use Rattle.std.specs.List.{range_with_len}
use Rattle.rule_ground.proofs.Lists.{flat-more, number-more}
use Rattle.rule_ground.specs.Within.{within_of}
use Rattle.problem_data.specs.ProblemView.{range_data}
use Rattle.rule_ground.proofs.within.push_within.Goals as goal

pub loop-o-preserved : goal.loop-o-preserved
loop-o-preserved c =
    flat-more (within_of c.args.problem.now (map range_data c.args.ranges.now)) (range_with_len (0) (c.loop-o.o)) (range_with_len (0) (c.loop-o.o + 1)) (c.loop-o.o) _ _ _
    (number-more (0) (c.loop-o.o) (c.loop-o.o + 1) (c.loop-o.o) (omega arith) (omega arith)) c.loop-o.invariant c.in_ok-push_object.ensures
