-- Lists of tests that begin with true ones.
use Rattle.std.proofs.Common.{◌≡◌, ℕ, zero, suc, ◌+◌, ◌-◌, ◌<◌, ◌≤◌, ◌++◌, ◌∷◌, length, Bool, true, false, List, refl, ap, ◌∙◌, set, replicate, arith}
use Rattle.std.proofs.lemmas.List.{length-append, length-replicate}

-- one test more is true
set_next : (a b : ℕ) → set (replicate a true ++ replicate (suc b) false) a true ≡ replicate (suc a) true ++ replicate b false
set_next zero b = refl
set_next (suc a) b = ap (λ (xs : List Bool). true ∷ xs) (set_next a b)

pub flags_more : (n i : ℕ) (xs : List Bool) → i < n → xs ≡ replicate i true ++ replicate (n - i) false → set xs i true ≡ replicate (i + 1) true ++ replicate (n - (i + 1)) false
flags_more n i xs h e =
    let b = n - (i + 1) in
    let m : n - i ≡ suc b = omega arith in
    let s : suc i ≡ i + 1 = omega arith in
    ap (λ (ys : List Bool). set ys i true) e
    ∙ ap (λ (k : ℕ). set (replicate i true ++ replicate k false) i true) m
    ∙ set_next i b
    ∙ ap (λ (k : ℕ). replicate k true ++ replicate b false) s

pub flags_length : (n i : ℕ) → i ≤ n → length (replicate i true ++ replicate (n - i) false) ≡ n
flags_length n i h = simp (length-append, length-replicate) (omega arith)
