-- Digits that have ended are a number, or a fault.
use Rattle.std.proofs.Common.{◌≡◌, ℕ, ◌+◌, ◌-◌, ◌*◌, ◌<◌, ◌≤◌, List, [], ◌∷◌, ◌++◌, length, get_or, take, true, false, ◌⊎◌, inl, inr, sym, ap, ◌∙◌, subst, refl, arith}
use Rattle.std.specs.List.{prefix_len}
use Rattle.std.proofs.Math.Seq.{take-append_seam}
use Rattle.geo_tokens.specs.Bytes.{is_digit, is_letter, value_from, value_of}
use Rattle.geo_tokens.specs.Cut.{IsNumber, IsWrongNumber}
use Rattle.token_stream.specs.Run.{IsDigits, IsValue}
use Rattle.token_stream.proofs.Made.{first_stays, made_longest, made_more}

-- one digit more
value_more : (v : ℕ) (ds : List ℕ) (d : ℕ) → value_from v (ds ++ d ∷ []) ≡ 10 * value_from v ds + (d - 48)
value_more v [] d = refl
value_more v (e ∷ ds) d = value_more (10 * v + (e - 48)) ds d

pub digits_more : (v w : ℕ) (rest : List ℕ) (d : ℕ) → IsDigits rest × IsValue v (value_of rest) → is_digit d ≡ true → IsValue w (10 * value_of rest + (d - 48)) → IsDigits (rest ++ d ∷ []) × IsValue w (value_of (rest ++ d ∷ []))
digits_more v w rest d h t i = (made_more is_digit is_digit rest h.0 d refl t, subst (λ (x : ℕ). IsValue w x) (sym (value_more 0 rest d)) i)

-- the first byte behind
pub byte_behind : (rest more : List ℕ) → get_or (rest ++ more) (length rest) 0 ≡ get_or more 0 0
byte_behind [] more = refl
byte_behind (b ∷ rest) more = byte_behind rest more

module _ (v next : ℕ) (rest more : List ℕ) (digits : IsDigits rest) (value : IsValue v (value_of rest)) (over : prefix_len is_digit more ≡ 0) (behind : next ≡ get_or more 0 0) where
  begins : is_digit (get_or (rest ++ more) 0 0) ≡ true
  begins = first_stays is_digit rest more refl digits.begins

  longest : length rest ≡ prefix_len is_digit (rest ++ more)
  longest = made_longest is_digit is_digit rest digits more over

  letter_behind : is_letter (get_or (rest ++ more) (length rest) 0) ≡ is_letter next
  letter_behind = ap is_letter (byte_behind rest more ∙ sym behind)

  read : take (length rest) (rest ++ more) ≡ rest
  read = take-append_seam rest more

  pub is_number : v ≤ 1000000000 → is_letter next ≡ false → IsNumber v (length rest) (rest ++ more)
  is_number small ends = record {
    begins = begins;
    longest = longest;
    value = elim value [
      | inl e ↦ e ∙ sym (ap value_of read)
      | inr h ↦ absurd (let large : 1000000000 < v = h.0 in omega arith)
    ];
    small = small;
    ends = letter_behind ∙ ends;
  }

  too_large : 1000000000 < v → 1000000000 < value_of rest
  too_large h = elim value [ inl e ↦ omega arith | inr g ↦ g.1 ]

  pub wrong_number : (is_letter next ≡ true) ⊎ (1000000000 < v) → IsWrongNumber (rest ++ more) × (prefix_len is_digit (rest ++ more) ≡ length rest)
  wrong_number h = (
    record {
      begins = begins;
      wrong = elim h [
        | inl l ↦ inr (ap (λ (n : ℕ). is_letter (get_or (rest ++ more) n 0)) (sym longest) ∙ letter_behind ∙ l)
        | inr g ↦ inl (subst (λ (n : ℕ). 1000000000 < value_of (take n (rest ++ more))) longest (subst (λ (u : List ℕ). 1000000000 < value_of u) (sym read) (too_large g)))
      ];
    },
    sym longest,
  )
