-- The fault at the least of some places.
use Rattle.std.proofs.Common.{◌≡◌, ℕ, zero, suc, ◌<◌, ◌≤◌, List, [], ◌∷◌, false, ◌||◌, ◌&&◌, Option, Some, None, ◌⊎◌, inl, inr, refl, sym, subst, arith}
use Rattle.std.specs.Prelude.{min, nat_lt, ◌==◌}
use Rattle.std.specs.List.{Contains}
use Rattle.std.proofs.lemmas.Bool.Decides.{nat_tests}
use Rattle.geo_tokens.specs.declared.fault.FaultWord.TheVariants as words
use Rattle.problem_data.specs.declared.fault.Fault.{Fault}
use Rattle.problem_data.specs.Least.{fault, is_after, IsLeast}
use Rattle.problem_data.specs.Divisors.{lesser, least_in}
use Rattle.problem_data.specs.Faults.{DivisorFault, divisor_at}

-- the least is in the list, and no other is less
record IsLeastIn (ns : List ℕ) (n : ℕ) : Type 0 where
  there : Contains ns n
  least : (m : ℕ) → Contains ns m → n ≤ m

Least : List ℕ → Option ℕ → Type 0
Least ns None = (m : ℕ) → Contains ns m → ⊥
Least ns (Some n) = IsLeastIn ns n

behind : (n : ℕ) (ns : List ℕ) (m : ℕ) → Contains ns m → Contains (n ∷ ns) m
behind n ns m (k, lt, e) = (suc k, omega arith, e)

cases : (n : ℕ) (ns : List ℕ) (m : ℕ) → Contains (n ∷ ns) m → (n ≡ m) ⊎ Contains ns m
cases n ns m (zero, lt, e) = inl e
cases n ns m (suc k, lt, e) = inr (k, omega arith, e)

one_more : (n : ℕ) (ns : List ℕ) (o : Option ℕ) → Least ns o → Least (n ∷ ns) (lesser (Some n) o)
unfolding Least
one_more n ns None h = record { there = (0, omega arith, refl); least = λ m there. elim (cases n ns m there) [ inl e ↦ omega arith | inr b ↦ absurd (h m b) ] }
one_more n ns (Some k) h = record {
  there = elim (either n k) [ inl e ↦ subst (λ (m : ℕ). Contains (n ∷ ns) m) (sym e) (0, omega arith, refl) | inr e ↦ subst (λ (m : ℕ). Contains (n ∷ ns) m) (sym e) (behind n ns k h.there) ];
  least = λ m there. elim (cases n ns m there) [ inl e ↦ omega arith | inr b ↦ (let le : k ≤ m = h.least m b in omega arith) ];
}
  where
    either : (a b : ℕ) → (min a b ≡ a) ⊎ (min a b ≡ b)
    either a b = grind (arith, nat_tests)

all_least : (ns : List ℕ) → Least ns (least_in ns)
unfolding Least
all_least [] = λ m there. let lt : there.0 < 0 = there.1 in absurd (omega arith)
all_least (n ∷ ns) = one_more n ns (least_in ns) (all_least ns)

not_before : (p q r : ℕ) → p ≤ q → (nat_lt q p || ((p == q) && nat_lt r r)) ≡ false
not_before p q r le = grind (arith, nat_tests)

as_faults : (ns : List ℕ) (o : Option ℕ) → Least ns o → IsLeast (DivisorFault ns) (divisor_at o)
unfolding Least
as_faults ns None h = λ f d. h d.0 d.1
as_faults ns (Some n) h = record {
  there = (n, h.there, refl);
  first = λ g d. subst (λ (x : Fault). is_after (fault n words.Limit) x ≡ false) (sym d.2) (not_before n d.0 0 (h.least d.0 d.1));
}

pub least_zero : (ns : List ℕ) (o : Option Fault) → o ≡ divisor_at (least_in ns) → IsLeast (DivisorFault ns) o
least_zero ns o e = subst (λ (x : Option Fault). IsLeast (DivisorFault ns) x) (sym e) (as_faults ns (least_in ns) (all_least ns))
