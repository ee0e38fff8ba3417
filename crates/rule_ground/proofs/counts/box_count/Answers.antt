use Rattle.std.proofs.Common.{◌+◌, ℕ, length, ap, refl, arith}
use Rattle.std.specs.List.{range_with_len}
use Rattle.rule_values.specs.Shapes.{boxes_at}
use Rattle.rule_ground.proofs.Lists.{number-more}
use Rattle.rule_ground.proofs.Numbers.{total-more}
use Rattle.rule_ground.proofs.counts.box_count.Goals as goal

pub loop-before-preserved : goal.loop-before-preserved
loop-before-preserved c = record {
  is = total-more (λ (s : ℕ). length (boxes_at c.args.problem.now c.args.o.0 s)) (range_with_len 1 c.loop-before.before) (range_with_len 1 (c.loop-before.before + 1)) (c.loop-before.before + 1) c.loop-before.count (c.loop-before.count + c.boxes_with-count.result)
      (number-more 1 c.loop-before.before (c.loop-before.before + 1) (c.loop-before.before + 1) refl (omega arith)) c.loop-before.invariant.is (ap (λ (n : ℕ). c.loop-before.count + n) c.boxes_with-count.ensures.value);
  few = let f = c.boxes_with-count.ensures.few in let g = c.loop-before.invariant.few in omega (arith, f, g);
}
