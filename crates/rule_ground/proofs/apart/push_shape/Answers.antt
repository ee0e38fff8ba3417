use Rattle.std.proofs.Common.{◌+◌, arith}
use Rattle.std.specs.List.{range_with_len}
use Rattle.rule_ground.proofs.Lists.{flat-more, number-more}
use Rattle.rule_ground.specs.Apart.{apart_at_places}
use Rattle.rule_ground.proofs.apart.push_shape.Goals as goal

pub loop-before-preserved : goal.loop-before-preserved
loop-before-preserved c =
    flat-more (apart_at_places c.args.problem.now c.args.first.object.0 c.args.first.place c.args.j.0) (range_with_len (1) (c.loop-before.before)) (range_with_len (1) (c.loop-before.before + 1)) (c.loop-before.before + 1) _ _ _
    (number-more (1) (c.loop-before.before) (c.loop-before.before + 1) (c.loop-before.before + 1) (omega arith) (omega arith)) c.loop-before.invariant c.in_ok-push_shapes.ensures
