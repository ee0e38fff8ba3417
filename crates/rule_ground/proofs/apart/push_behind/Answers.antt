use Rattle.std.proofs.Common.{◌+◌, ◌-◌, arith}
use Rattle.std.specs.List.{range_with_len}
use Rattle.rule_ground.proofs.Lists.{flat-more, number-more}
use Rattle.rule_ground.specs.Apart.{apart_of}
use Rattle.rule_ground.proofs.apart.push_behind.Goals as goal

pub loop-j-preserved : goal.loop-j-preserved
loop-j-preserved c =
    flat-more (apart_of c.args.problem.now c.args.i) (range_with_len (c.args.i + 1) (c.loop-j.j - (c.args.i + 1))) (range_with_len (c.args.i + 1) ((c.loop-j.j + 1) - (c.args.i + 1))) (c.loop-j.j) _ _ _
    (number-more (c.args.i + 1) (c.loop-j.j - (c.args.i + 1)) ((c.loop-j.j + 1) - (c.args.i + 1)) (c.loop-j.j) (omega arith) (omega arith)) c.loop-j.invariant c.in_ok-push_objects.ensures
