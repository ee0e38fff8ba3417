use Rattle.std.proofs.Common.{◌≡◌, ◌+◌, ◌-◌, ◌*◌, ℕ, length, ap, sym, ◌∙◌, arith}
use Rattle.std.specs.List.{range_with_len}
use Rattle.rule_ground.specs.BoxCounts.{total, box_count}
use Rattle.rule_ground.proofs.Lists.{number-more}
use Rattle.rule_ground.proofs.Numbers.{total-more, objects-behind}
use Rattle.rule_ground.proofs.counts.count_behind.Goals as goal

pub loop-j-preserved : goal.loop-j-preserved
loop-j-preserved c = record {
  is = total-more (λ (j : ℕ). box_count c.args.problem.now c.args.i * box_count c.args.problem.now j) (range_with_len (c.args.i + 1) (c.loop-j.j - (c.args.i + 1))) (range_with_len (c.args.i + 1) ((c.loop-j.j + 1) - (c.args.i + 1))) c.loop-j.j c.loop-j.sum (c.loop-j.sum + c.count_pair-sum.result)
      (number-more (c.args.i + 1) (c.loop-j.j - (c.args.i + 1)) ((c.loop-j.j + 1) - (c.args.i + 1)) c.loop-j.j (omega arith) (omega arith)) c.loop-j.invariant.is (ap (λ (n : ℕ). c.loop-j.sum + n) c.count_pair-sum.ensures.value);
  few = let f = c.count_pair-sum.ensures.few in let g = c.loop-j.invariant.few in omega (arith, f, g);
}

pub returns-clause-value : goal.returns-clause-value
returns-clause-value c =
    let p = c.args.problem.now in
    let i = c.args.i in
    let n : length c.objects.result.now ≡ length p.objects = ap length c.objects.ensures in
    let there = c.requires.i in
    let end : c.loop-j.j ≡ length p.objects = omega (arith, n, there) in
    c.loop-j.invariant.is
    ∙ ap (λ (m : ℕ). total (λ (j : ℕ). box_count p i * box_count p j) (range_with_len (i + 1) (m - (i + 1)))) end
    ∙ sym (objects-behind p i (range_with_len (i + 1) (length p.objects - (i + 1))))
