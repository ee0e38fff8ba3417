-- Gaps and tokens other than the word `end` are passed over on the way to the first word `end`.
use Rattle.std.proofs.Common.{◌≡◌, ℕ, suc, ◌+◌, ◌<◌, List, [], ◌∷◌, length, take, drop, Some, Bool, true, false, ◌==◌, ◌&&◌, ◌||◌, inl, inr, refl, sym, ap, ◌∙◌, subst, arith}
use Rattle.std.specs.Prelude.{slice_index, cond, codes, not}
use Rattle.std.specs.List.{prefix_len, list_all}
use Rattle.std.proofs.lemmas.Bool.{cases_Bool, or_cases, and_parts, eqb-true, eq-eqb}
use Rattle.std.proofs.lemmas.List.{get_or-take}
use Rattle.geo_tokens.specs.declared.token.Token.{Token}
use Rattle.geo_tokens.specs.declared.token.Kind.{Kind}
use Rattle.geo_tokens.specs.declared.token.Kind.TheVariants as kinds
use Rattle.geo_tokens.specs.declared.token.Keyword.{Keyword}
use Rattle.geo_tokens.specs.declared.token.Keyword.TheVariants as keywords
use Rattle.geo_tokens.specs.declared.token.Sym.{Sym}
use Rattle.geo_tokens.specs.declared.token.Sym.TheVariants as symbols
use Rattle.geo_tokens.specs.Bytes.{is_white, is_digit, is_letter, is_word_byte}
use Rattle.geo_tokens.specs.Class.{word_bytes, symbol_bytes}
use Rattle.geo_tokens.specs.Spelled.{spelled_as, all_words}
use Rattle.geo_tokens.specs.Cut.{IsGap, white, comment, IsWordForm, IsNumber, IsToken, Cut, here, behind_gap, behind_token}
use Rattle.geo_tokens.specs.FirstEnd.{first_word, IsPassed, other_word, other_byte, Passes, behind}
use Rattle.geo_tokens.specs.FirstEnd as ends
use Rattle.geo_tokens.proofs.Cuts.{token_of}
use Rattle.geo_tokens.proofs.Spellings.{is_there}
use Rattle.geo_tokens.proofs.Fronts.{gap_inside, token_inside}
use Rattle.accepted_fronts.proofs.Alike.{HaveNoEnd}

-- a byte that begins neither a comment nor a word
abbrev is_other : ℕ → Bool
is_other b = not (b == 35) && not (is_word_byte b)

not_true : (b : Bool) → not b ≡ true → b ≡ false
not_true true h = absurd cc
not_true false h = refl

letter_word : (b : ℕ) → is_letter b ≡ true → is_word_byte b ≡ true
letter_word b h = ap (λ (x : Bool). x || is_digit b) h

digit_word : (a b : Bool) → b ≡ true → (a || b) ≡ true
digit_word true b h = refl
digit_word false b h = h

neither : (a b : Bool) → a ≡ false → b ≡ false → (a || b) ≡ false
neither a b h k = ap (λ (x : Bool). x || b) h ∙ k

same_other : (b c : ℕ) → (b == c) ≡ true → is_other c ≡ true → is_other b ≡ true
same_other b c e h = ap is_other (eqb-true b c e) ∙ h

white_other : (b : ℕ) → is_white b ≡ true → is_other b ≡ true
white_other b h = elim (or_cases ((b == 32) || (b == 9) || (b == 10)) (b == 13) h) [
  | inr e ↦ same_other b 13 e refl
  | inl g ↦ elim (or_cases ((b == 32) || (b == 9)) (b == 10) g) [
    | inr e ↦ same_other b 10 e refl
    | inl f ↦ elim (or_cases (b == 32) (b == 9) f) [
      | inr e ↦ same_other b 9 e refl
      | inl e ↦ same_other b 32 e refl
    ]
  ]
]

other_is_passed : (n : ℕ) (bytes : List ℕ) → 0 < length bytes → is_other (slice_index bytes 0) ≡ true → n ≡ 1 → IsPassed n bytes
other_is_passed n bytes some h e =
    let u = and_parts (not (slice_index bytes 0 == 35)) (not (is_word_byte (slice_index bytes 0))) h in
    other_byte some (λ q. (let clash : true ≡ false = sym (eq-eqb (slice_index bytes 0) 35 q) ∙ not_true (slice_index bytes 0 == 35) u.0 in absurd cc)) (not_true (is_word_byte (slice_index bytes 0)) u.1) e

module _ (last : ℕ) (rest : List ℕ) where
  -- bytes that begin nothing
  others_pass : (xs : List ℕ) → list_all is_other xs ≡ true → (place : ℕ) (bytes : List ℕ) → take (length xs) bytes ≡ xs → Passes last rest (place + length xs) (drop (length xs) bytes)
      → Passes last rest place bytes
  others_pass [] h place bytes e d = (let same : place + 0 ≡ place = omega arith in subst (λ (m : ℕ). Passes last rest m bytes) same d)
  others_pass (x ∷ xs) h place [] e d = absurd cc
  others_pass (x ∷ xs) h place (b ∷ bytes) e d =
      let first : b ≡ x = cc in
      let more : take (length xs) bytes ≡ xs = cc in
      let t = and_parts (is_other x) (list_all is_other xs) h in
      let same : place + suc (length xs) ≡ place + 1 + length xs = omega arith in
      behind place (b ∷ bytes) 1 (other_is_passed 1 (b ∷ bytes) (omega arith) (ap is_other first ∙ t.0) refl)
      (others_pass xs t.1 (place + 1) bytes more (subst (λ (m : ℕ). Passes last rest m (drop (length xs) bytes)) same d))

  other_symbol : (s : Sym) → list_all is_other (symbol_bytes s) ≡ true
  other_symbol symbols.Dot = refl
  other_symbol _ = refl

  -- ---- words

  form_passes : (n : ℕ) (place : ℕ) (bytes : List ℕ) → IsWordForm n bytes → (take n bytes ≡ codes "end" → ⊥) → Passes last rest (place + n) (drop n bytes) → Passes last rest place bytes
  form_passes n place bytes f g d =
      behind place bytes n (other_word (letter_word (slice_index bytes 0) f.begins) f.longest (λ w. g (ap (λ (m : ℕ). take m bytes) f.longest ∙ w))) d

  end_alone : (w : Keyword) → word_bytes w ≡ codes "end" → w ≡ keywords.End
  end_alone w e =
      let f : Some w ≡ Some keywords.End = sym ((is_there w).found) ∙ ap (spelled_as word_bytes all_words) e ∙ (is_there keywords.End).found in
      cc

  -- ---- numbers

  word_run : (bytes : List ℕ) → is_letter (slice_index bytes (prefix_len is_digit bytes)) ≡ false → prefix_len is_word_byte bytes ≡ prefix_len is_digit bytes
  word_run [] h = refl
  word_run (b ∷ bytes) h = elim (cases_Bool (is_digit b)) [
    | inl t ↦
        let size : prefix_len is_digit (b ∷ bytes) ≡ suc (prefix_len is_digit bytes) = ap (λ x. cond x (1 + prefix_len is_digit bytes) 0) t ∙ (let s : 1 + prefix_len is_digit bytes ≡ suc (prefix_len is_digit bytes) = omega arith in s) in
        let more : is_letter (slice_index bytes (prefix_len is_digit bytes)) ≡ false = subst (λ (m : ℕ). is_letter (slice_index (b ∷ bytes) m) ≡ false) size h in
        ap (λ x. cond x (1 + prefix_len is_word_byte bytes) 0) (digit_word (is_letter b) (is_digit b) t) ∙ ap (λ m. 1 + m) (word_run bytes more)
        ∙ sym (ap (λ x. cond x (1 + prefix_len is_digit bytes) 0) t)
    | inr f ↦
        let size : prefix_len is_digit (b ∷ bytes) ≡ 0 = ap (λ x. cond x (1 + prefix_len is_digit bytes) 0) f in
        let letter : is_letter b ≡ false = subst (λ (m : ℕ). is_letter (slice_index (b ∷ bytes) m) ≡ false) size h in
        ap (λ x. cond x (1 + prefix_len is_word_byte bytes) 0) (neither (is_letter b) (is_digit b) letter f) ∙ sym size
  ]

  no_digit_end : (n : ℕ) (bytes : List ℕ) → 0 < n → is_digit (slice_index bytes 0) ≡ true → take n bytes ≡ codes "end" → ⊥
  no_digit_end n bytes some h e =
      let first : slice_index bytes 0 ≡ 101 = sym (get_or-take n bytes 0 0 some) ∙ ap (λ (u : List ℕ). slice_index u 0) e in
      let clash : true ≡ false = sym h ∙ ap is_digit first in
      absurd cc

  number_passes : (v n place : ℕ) (bytes : List ℕ) → IsNumber v n bytes → Passes last rest (place + n) (drop n bytes) → Passes last rest place bytes
  number_passes v n place bytes h d =
      let run : prefix_len is_word_byte bytes ≡ prefix_len is_digit bytes = word_run bytes (subst (λ (m : ℕ). is_letter (slice_index bytes m) ≡ false) h.longest h.ends) in
      let size : n ≡ prefix_len is_word_byte bytes = h.longest ∙ sym run in
      let some : 0 < n = (token_inside (kinds.Number v) n bytes h).0 in
      behind place bytes n
      (other_word (digit_word (is_letter (slice_index bytes 0)) (is_digit (slice_index bytes 0)) h.begins) size (λ w. no_digit_end n bytes some h.begins (ap (λ (m : ℕ). take m bytes) size ∙ w))) d

  -- ---- tokens and gaps

  token_passes : (k : Kind) (n place : ℕ) (bytes : List ℕ) → IsToken k n bytes → (k ≡ kinds.Word keywords.End → ⊥) → Passes last rest (place + n) (drop n bytes) → Passes last rest place bytes
  token_passes kinds.Name n place bytes h f d = form_passes n place bytes h.form (h.free keywords.End) d
  token_passes (kinds.Word w) n place bytes h f d = form_passes n place bytes h.form (λ e. f (ap kinds.Word (end_alone w (sym h.spelled ∙ e)))) d
  token_passes (kinds.Number v) n place bytes h f d = number_passes v n place bytes h d
  token_passes (kinds.Symbol s) n place bytes h f d =
      others_pass (symbol_bytes s) (other_symbol s) place bytes h.fits (subst (λ (m : ℕ). Passes last rest (place + m) (drop m bytes)) h.size d)

  gap_passes : (n place : ℕ) (bytes : List ℕ) → IsGap n bytes → 0 < length bytes → Passes last rest (place + n) (drop n bytes) → Passes last rest place bytes
  gap_passes n place bytes (comment h e) some d = behind place bytes n (ends.comment h e) d
  gap_passes n place bytes (white h e) some d = behind place bytes n (other_is_passed n bytes some (white_other (slice_index bytes 0) h) e) d

  pub plain_passes : (place : ℕ) (bytes : List ℕ) (ts : List Token) → Cut last rest place bytes ts → HaveNoEnd ts → Passes last rest place bytes
  plain_passes place bytes ts (here _ _ _ a b c) h = ends.here place bytes a b
  plain_passes place bytes ts (behind_gap _ _ _ n g d) h =
      let i = gap_inside n bytes g in
      gap_passes n place bytes g (omega (arith, i.0, i.1)) (plain_passes (place + n) (drop n bytes) ts d h)
  plain_passes place bytes ts (behind_token _ _ _ k n us g e d) h =
      let r : HaveNoEnd (token_of k place n ∷ us) = subst HaveNoEnd e h in
      token_passes k n place bytes g r.0 (plain_passes (place + n) (drop n bytes) us d r.1)
