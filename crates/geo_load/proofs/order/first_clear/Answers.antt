use Rattle.std.proofs.Common.{◌≡◌, ℕ, get_or, arith, subst, ap, ◌∙◌, inl, inr}
use Rattle.std.proofs.lemmas.Bool.{cases_lt}
use Rattle.geo_load.specs.Order.{BlocksOne}
use Rattle.geo_load.specs.Pairs.{Says}
use Rattle.geo_load.proofs.Members.{same_or}
use Rattle.geo_load.proofs.order.first_clear.Goals as goal

pub loop-i-preserved : goal.loop-i-preserved
loop-i-preserved c = λ k d l. elim (cases_lt k c.loop-i.i) [
  | inl before ↦ c.loop-i.invariant k d before
  | inr ge ↦ (
      let same : c.loop-i.i ≡ k = omega (arith, l, ge) in
      let s : get_or c.args.left.now c.loop-i.i 0 ≡ get_or c.args.left.now k d =
      same_or c.args.left.now c.loop-i.i 0 d c.loop-i-test.true ∙ ap (λ (n : ℕ). get_or c.args.left.now n d) same in
      subst (λ (v : ℕ). BlocksOne (Says c.args.answers.now) c.args.left.now v) s c.if-is_clear.ensures.no
      )
]
