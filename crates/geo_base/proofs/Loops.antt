-- Loops over the dimensions that change one coordinate at each turn.
use Rattle.std.proofs.Common.{below_more, ap, ◌∙◌, ◌+◌, ◌≡◌, ◌≢◌, ℕ, ◌<◌, ◌≤◌, ℤ, arith}

-- below k each coordinate is f of what it was, from k on it is what it was, and the turn at k changes it alone
module _ (f : ℕ → ℤ → ℤ) (x0 x x' : ℕ → ℤ) (k : ℕ) (left : (e : ℕ) → k ≤ e → x e ≡ x0 e) (others : (e : ℕ) → e ≢ k → x' e ≡ x e) where
  -- after the turn each coordinate up to k is f of what it was
  pub mapped_more : ((e : ℕ) → e < k → x e ≡ f e (x0 e)) → x' k ≡ f k (x k) → (e : ℕ) → e < k + 1 → x' e ≡ f e (x0 e)
  mapped_more done here = below_more _ _
      (λ e h. let ne : e ≢ k = omega arith in others e ne ∙ done e h)
      (here ∙ ap (f k) (left k (omega arith)))

  -- and those after k are what they were
  pub left_more : (e : ℕ) → k + 1 ≤ e → x' e ≡ x0 e
  left_more e h = let ne : e ≢ k = omega arith in others e ne ∙ left e (omega arith)
