use Rattle.std.proofs.Common.{◌≡◌, ℕ, zero, suc, List, Bool, true, Some, sym, ap, ◌∙◌}
use Rattle.std.proofs.lemmas.Bool.{false≢true}
use Rattle.geo_conditions.specs.Reach.{is_only}
use Rattle.fixpoint.proofs.waking.only_place.Goals as goal

-- no set has place 0 alone
not_zero : (bs : List Bool) (r : ℕ) → is_only bs r ≡ true → r ≡ 0 → ⊥
not_zero bs zero h e = false≢true h
not_zero bs (suc r) h e = cc

pub returns-then-place-eq0 : goal.returns-then-place-eq0
returns-then-place-eq0 g c = λ r h. absurd (not_zero _ r h (c.sole_place-place.ensures.only r h ∙ c.if-place-eq0.true))

pub returns-else-place-eq0 : goal.returns-else-place-eq0
returns-else-place-eq0 g c = λ r h. ap (λ (n : ℕ). Some n) (sym (c.sole_place-place.ensures.only r h))
