use Rattle.std.proofs.Common.{ℕ, ◌<◌, arith, subst, rules}
use Rattle.geo_tokens.proofs.Digits.{too_large}
use Rattle.geo_tokens.proofs.front.value_of.Goals as goal

pub returns-then-next-gt-GREATEST : goal.returns-then-next-gt-GREATEST
returns-then-next-gt-GREATEST c =
    subst (λ (n : ℕ). 1000000000 < n) c.loop-digit.invariant.rest (too_large c.loop-digit.value c.args.digits.now c.loop-digit.digit-index 0 (omega arith) (search rules))
