-- Counts, and whether they are within the limits.
use Rattle.std.proofs.Common.{◌≡◌, ℕ, ◌+◌, ℤ, true, false, cond, List, [], ◌∷◌, length, refl, sym, subst, ap, ◌∙◌, arith}
use Rattle.std.specs.Prelude.{if◌then◌else◌}
use Rattle.geo_conditions.specs.Form.{Sum}
use Rattle.geo_conditions.specs.declared.form.Term.{Term}
use Rattle.geo_tokens.specs.declared.fault.FaultWord.TheVariants.{Ground}
use Rattle.linear_conditions.specs.declared.fault.GroundFault.{GroundFault}
use Rattle.linear_conditions.specs.declared.fault.GroundFault.TheVariants.{TooMany}
use Rattle.linear_conditions.specs.Faults.{IsFault, IsPast}
use Rattle.linear_conditions.specs.Counts.{Counts, Outcome, Fault, Done, allowed, are_within, count_sum, count_sums, within_limits}
use Rattle.linear_conditions.specs.Sums.{has_terms}

pub within-done : (k : Counts) → are_within k ≡ true → within_limits k ≡ Done k k
unfolding allowed
within-done k h = ap (λ b. cond b (Done k k) (Fault Ground)) h

pub within-past : (k : Counts) → are_within k ≡ false → IsPast (within_limits k) TooMany
unfolding allowed
within-past k h = (refl, ap (λ b. cond b (Done k k) (Fault Ground)) h)

pub past-fault : (o : Outcome Counts) (e : GroundFault) → IsPast o e → IsFault Counts o e
past-fault o e h = subst (IsFault Counts o) (sym h.0) h.1

-- the leaf and the terms of a form, and those of two
one-counted : (f : Sum) (k : Counts) → record k { leaves = k.leaves + (if has_terms f then 1 else 0); terms = k.terms + length f.terms } ≡ count_sum f k
one-counted f k = by-terms f.terms f.constant
  where
    by-terms : (ts : List Term) (z : ℤ) → let g : Sum = record { terms = ts; constant = z } in record k { leaves = k.leaves + (if has_terms g then 1 else 0); terms = k.terms + length ts } ≡ count_sum g k
    by-terms [] z =
        let e : k.leaves + 0 ≡ k.leaves = omega arith in
        let d : k.terms + 0 ≡ k.terms = omega arith in
        λ i. record { visits = k.visits; leaves = e i; terms = d i }
    by-terms (t ∷ ts) z = refl

pub two-counted : (f g : Sum) (k : Counts) (a b m n s : ℕ) → a ≡ (if has_terms f then 1 else 0) → b ≡ (if has_terms g then 1 else 0) → s ≡ k.terms → m ≡ length f.terms → n ≡ length g.terms →
    record k { leaves = k.leaves + a + b; terms = s + m + n } ≡ count_sums (f ∷ g ∷ []) k
two-counted f g k a b m n s p q r h j =
    (λ i. record { visits = k.visits; leaves = k.leaves + p i + q i; terms = r i + h i + j i })
    ∙ ap (λ (x : Counts). record x { leaves = x.leaves + (if has_terms g then 1 else 0); terms = x.terms + length g.terms }) (one-counted f k)
    ∙ one-counted g (count_sum f k)
