use Rattle.std.proofs.Common.{◌≡◌, ◌≤◌, ◌+◌, ◌-◌, ◌++◌, ℕ, ap, ◌∙◌, arith}
use Rattle.std.specs.List.{range_with_len}
use Rattle.geo_core.proofs.LeftOut.{range_more}
use Rattle.geo_core.proofs.leaving.rules_with.Goals as goal

pub loop-i-preserved : goal.loop-i-preserved
loop-i-preserved c = c.in_ok-push.ensures.items ∙ range_more c.args.kept.now c.loop-i.rules.items c.args.from c.loop-i.i c.loop-i.auto.i c.loop-i.invariant

pub returns : goal.returns
returns c =
    let from : c.args.from ≤ c.loop-i.i = c.loop-i.auto.i in
    let over : c.args.last + 1 ≤ c.loop-i.i = c.loop-i-test.false in
    let e : c.loop-i.i - c.args.from ≡ (c.args.last + 1) - c.args.from = omega (arith, from, over, c.requires.from, c.loop-i.auto.i-end) in
    c.loop-i.invariant ∙ ap (λ (n : ℕ). c.args.kept.now ++ range_with_len c.args.from n) e
