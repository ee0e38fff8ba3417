use Rattle.std.proofs.Common.{◌≡◌, ◌+◌, ◌*◌, ◌≤◌, ℕ, length, ap, sym, ◌∙◌, refl, arith}
use Rattle.std.specs.List.{range_with_len}
use Rattle.rule_ground.specs.BoxCounts.{total, box_count}
use Rattle.rule_ground.proofs.Lists.{number-more}
use Rattle.rule_ground.proofs.Numbers.{total-more, all-within, product-small}
use Rattle.rule_ground.proofs.counts.count_within.Goals as goal

pub loop-o-preserved : goal.loop-o-preserved
loop-o-preserved c =
    let p = c.args.problem.now in
    let dims : c.dims.result ≡ p.dims = c.dims.ensures in
    let few : c.dims.result ≤ 6 = (let d = c.is_said.ensures.formed.dimensions in omega (arith, d, dims)) in
    let product : c.box_count.result * (c.dims.result * 2) ≤ 65536 = product-small c.box_count.result (c.dims.result * 2) c.box_count.ensures.few (omega (arith, few)) in
    record {
      is = total-more (λ (o : ℕ). box_count p o * (p.dims * 2)) (range_with_len 0 c.loop-o.o) (range_with_len 0 (c.loop-o.o + 1)) c.loop-o.o c.loop-o.sum (c.loop-o.sum + c.box_count.result * (c.dims.result * 2))
          (number-more 0 c.loop-o.o (c.loop-o.o + 1) c.loop-o.o refl (omega arith)) c.loop-o.invariant.is
          (λ k. c.loop-o.sum + c.box_count.ensures.value k * (dims k * 2));
      few = let g = c.loop-o.invariant.few in omega (arith, product, g);
    }

pub returns-clause-value : goal.returns-clause-value
returns-clause-value c = λ ranges.
    let p = c.args.problem.now in
    let n : length c.objects.result.now ≡ length p.objects = ap length c.objects.ensures in
    let end : c.loop-o.o ≡ length p.objects = omega (arith, n) in
    c.loop-o.invariant.is
    ∙ ap (λ (m : ℕ). total (λ (o : ℕ). box_count p o * (p.dims * 2)) (range_with_len 0 m)) end
    ∙ sym (all-within p ranges (range_with_len 0 (length p.objects)))
