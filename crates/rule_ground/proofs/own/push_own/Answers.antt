use Rattle.std.proofs.Common.{◌+◌, arith}
use Rattle.std.specs.List.{range_with_len}
use Rattle.rule_ground.proofs.Lists.{flat-more, number-more}
use Rattle.rule_ground.specs.Own.{own_of}
use Rattle.rule_ground.proofs.own.push_own.Goals as goal

pub loop-o-preserved : goal.loop-o-preserved
loop-o-preserved c =
    flat-more (own_of c.args.problem.now) (range_with_len 0 c.loop-o.o) (range_with_len 0 (c.loop-o.o + 1)) c.loop-o.o _ _ _
    (number-more 0 c.loop-o.o (c.loop-o.o + 1) c.loop-o.o (omega arith) (omega arith)) c.loop-o.invariant c.in_ok-push_object.ensures
