-- Bytes of one sort, up to their end, go on with a byte of that sort, and end in front of any other.
use Rattle.std.proofs.Common.{◌≡◌, ℕ, ◌+◌, List, [], ◌∷◌, ◌++◌, length, get_or, Bool, true, false, sym, ap, ◌∙◌, refl, arith}
use Rattle.std.specs.Prelude.{cond}
use Rattle.std.specs.List.{prefix_len}
use Rattle.std.proofs.lemmas.List.{length-append}
use Rattle.std.proofs.lemmas.List.Folds.{prefix_len-append}
use Rattle.std.proofs.lemmas.Bool.{eq-eqb}
use Rattle.token_stream.specs.Run.{IsMadeOf}

-- a run that passes to its end, and what stands behind it
pub all_pass : (p : ℕ → Bool) (rest more : List ℕ) → prefix_len p rest ≡ length rest → prefix_len p (rest ++ more) ≡ length rest + prefix_len p more
all_pass p rest more h =
    prefix_len-append p rest more ∙ ap (λ (b : Bool). cond b (length rest + prefix_len p more) (prefix_len p rest)) (eq-eqb (prefix_len p rest) (length rest) h)

-- one byte that passes, or does not
pub one_passes : (p : ℕ → Bool) (b : ℕ) → p b ≡ true → prefix_len p (b ∷ []) ≡ 1
one_passes p b h = rw h (omega arith)

pub none_passes : (p : ℕ → Bool) (b : ℕ) (more : List ℕ) → p b ≡ false → prefix_len p (b ∷ more) ≡ 0
none_passes p b more h = rw h refl

-- the first byte stays the first
pub first_stays : (p : ℕ → Bool) (rest more : List ℕ) → p 0 ≡ false → p (get_or rest 0 0) ≡ true → p (get_or (rest ++ more) 0 0) ≡ true
first_stays p [] more z h = absurd (let e : true ≡ false = sym h ∙ z in cc)
first_stays p (b ∷ rest) more z h = h

module _ (first others : ℕ → Bool) (rest : List ℕ) (made : IsMadeOf first others rest) where
  pub made_more : (b : ℕ) → first 0 ≡ false → others b ≡ true → IsMadeOf first others (rest ++ b ∷ [])
  made_more b z h = record {
    begins = first_stays first rest (b ∷ []) z made.begins;
    whole = all_pass others rest (b ∷ []) made.whole ∙ ap (λ (n : ℕ). length rest + n) (one_passes others b h) ∙ sym (length-append rest (b ∷ []));
  }

  -- it is as long as it can be
  pub made_longest : (more : List ℕ) → prefix_len others more ≡ 0 → length rest ≡ prefix_len others (rest ++ more)
  made_longest more h = omega (arith, all_pass others rest more made.whole, h)
