use Rattle.std.proofs.Common.{◌≡◌, ◌+◌, ℕ, length, ap, sym, ◌∙◌, refl, arith}
use Rattle.std.specs.List.{range_with_len}
use Rattle.rule_ground.specs.BoxCounts.{total}
use Rattle.rule_ground.specs.Apart.{apart_behind}
use Rattle.rule_ground.proofs.Lists.{number-more}
use Rattle.rule_ground.proofs.Numbers.{total-more, all-apart}
use Rattle.rule_ground.proofs.counts.count_apart.Goals as goal

pub loop-i-preserved : goal.loop-i-preserved
loop-i-preserved c = record {
  is = total-more (λ (i : ℕ). length (apart_behind c.args.problem.now i)) (range_with_len 0 c.loop-i.i) (range_with_len 0 (c.loop-i.i + 1)) c.loop-i.i c.loop-i.sum (c.loop-i.sum + c.count_behind-sum.result)
      (number-more 0 c.loop-i.i (c.loop-i.i + 1) c.loop-i.i refl (omega arith)) c.loop-i.invariant.is (ap (λ (n : ℕ). c.loop-i.sum + n) c.count_behind-sum.ensures.value);
  few = let f = c.count_behind-sum.ensures.few in let g = c.loop-i.invariant.few in omega (arith, f, g);
}

pub returns-clause-value : goal.returns-clause-value
returns-clause-value c =
    let p = c.args.problem.now in
    let n : length c.objects.result.now ≡ length p.objects = ap length c.objects.ensures in
    let end : c.loop-i.i ≡ length p.objects = omega (arith, n) in
    c.loop-i.invariant.is
    ∙ ap (λ (m : ℕ). total (λ (i : ℕ). length (apart_behind p i)) (range_with_len 0 m)) end
    ∙ sym (all-apart p (range_with_len 0 (length p.objects)))
