-- Ends of ranges that are set one after another.
use Rattle.std.proofs.Common.{◌≡◌, ◌≢◌, ℕ, ◌+◌, ◌<◌, ℤ, List, length, set, inl, inr, ap, ◌∙◌, subst, arith}
use Rattle.std.proofs.lemmas.Bool.{cases_lt}
use Rattle.std.proofs.Math.ListN.{length-set}
use Rattle.geo_base.specs.Boxes.{coordinate}

pub as_long : (xs new : List ℤ) (d k : ℕ) (v : ℤ) → new ≡ set xs d v → length xs ≡ k → length new ≡ k
as_long xs new d k v e h = ap length e ∙ (simp length-set h)

pub end_more : (f : ℕ → ℤ) (xs new : List ℤ) (d : ℕ) (v : ℤ) → coordinate new d ≡ v → ((e : ℕ) → e ≢ d → coordinate new e ≡ coordinate xs e) → v ≡ f d → ((e : ℕ) → e < d → coordinate xs e ≡ f e)
    → (e : ℕ) → e < d + 1 → coordinate new e ≡ f e
end_more f xs new d v same others is below e h = elim (cases_lt e d) [
  | inl b ↦ others e (λ q. absurd (omega (arith, b, q))) ∙ below e b
  | inr b ↦ let q : d ≡ e = omega arith in subst (λ (n : ℕ). coordinate new n ≡ f n) q (same ∙ is)
]
