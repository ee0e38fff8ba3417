-- Numbers against each other, and what is not not so.
use Rattle.std.proofs.Common.{◌≡◌, inl, inr, ℕ, ℤ, ◌<ℤ◌, ◌≤ℤ◌, Bool, true, false, refl, arith}
use Rattle.std.specs.Prelude.{◌⊎◌}
use Rattle.std.proofs.Math.Logic.{⊎_elim}
use Rattle.std.proofs.lemmas.Bool.{cases_eq}
use Rattle.std.proofs.lemmas.Int.{ints}
use lib.Signed.{lt_z}

tri_not : (a b : ℤ) (t u : Bool) → lt_z a b ≡ t → lt_z b a ≡ u → (a <ℤ b) ⊎ ((a ≡ b) ⊎ (b <ℤ a))
tri_not a b true u e f = inl (grind (arith, ints))
tri_not a b false true e f = inr (inr (grind (arith, ints)))
tri_not a b false false e f = inr (inl (grind (arith, ints)))

pub tri : (a b : ℤ) → (a <ℤ b) ⊎ ((a ≡ b) ⊎ (b <ℤ a))
tri a b = tri_not a b (lt_z a b) (lt_z b a) refl refl

pub at_most : (a b : ℤ) → ((a ≤ℤ b → ⊥) → ⊥) → a ≤ℤ b
at_most a b h = ⊎_elim (λ l. omega (arith, ints)) (⊎_elim (λ e. omega (arith, ints)) (λ g. absurd (h (λ l. omega (arith, ints))))) (tri a b)

pub same_number : (m n : ℕ) → ((m ≡ n → ⊥) → ⊥) → m ≡ n
same_number m n h = ⊎_elim (λ e. e) (λ ne. absurd (h ne)) (cases_eq m n)

pub above : (a b : ℤ) → (a ≤ℤ b → ⊥) → b <ℤ a
above a b h = ⊎_elim (λ l. absurd (h (omega (arith, ints)))) (⊎_elim (λ e. absurd (h (omega (arith, ints)))) (λ g. g)) (tri a b)
