use Rattle.std.proofs.Common.{◌+◌, arith}
use Rattle.std.specs.List.{range_with_len}
use Rattle.rule_ground.proofs.Lists.{flat-more, number-more}
use Rattle.rule_ground.specs.Apart.{apart_behind}
use Rattle.rule_ground.proofs.apart.push_apart.Goals as goal

pub loop-i-preserved : goal.loop-i-preserved
loop-i-preserved c =
    flat-more (apart_behind c.args.problem.now) (range_with_len (0) (c.loop-i.i)) (range_with_len (0) (c.loop-i.i + 1)) (c.loop-i.i) _ _ _
    (number-more (0) (c.loop-i.i) (c.loop-i.i + 1) (c.loop-i.i) (omega arith) (omega arith)) c.loop-i.invariant c.in_ok-push_behind.ensures
