-- A text with a line feed and more behind it: its gaps, and what is passed over, are those of the text.
use Rattle.std.proofs.Common.{◌≡◌, ℕ, ◌+◌, ◌<◌, ◌≤◌, List, [], ◌∷◌, ◌++◌, length, take, drop, false, Bool, refl, sym, ap, ◌∙◌, subst, arith}
use Rattle.std.specs.Prelude.{slice_index, cond}
use Rattle.std.specs.List.{prefix_len}
use Rattle.std.proofs.lemmas.List.{length-append, drop-append-le, take-append-le}
use Rattle.std.proofs.lemmas.List.Sums.{prefix_len-le-length}
use Rattle.geo_tokens.specs.Bytes.{is_white, is_word_byte, is_line_byte}
use Rattle.geo_tokens.specs.Cut.{IsGap, white, comment, Cut, here, behind_gap, behind_token}
use Rattle.geo_tokens.specs.FirstEnd.{first_word, IsPassed, other_word, other_byte, Passes, IsFirstEnd}
use Rattle.geo_tokens.specs.FirstEnd as ends
use Rattle.geo_tokens.proofs.Fronts.{gap_inside}
use Rattle.geo_tokens.proofs.Ends.{passed_inside}

module _ (more : List ℕ) where
  abbrev with_line : List ℕ → List ℕ
  with_line xs = xs ++ (10 ∷ more)

  -- a run that a line feed ends
  same_run : (p : ℕ → Bool) → p 10 ≡ false → (xs : List ℕ) → prefix_len p (with_line xs) ≡ prefix_len p xs
  same_run p z [] = ap (λ t. cond t (1 + prefix_len p more) 0) z
  same_run p z (x ∷ xs) = ap (λ m. cond (p x) (1 + m) 0) (same_run p z xs)

  first_byte : (xs : List ℕ) → 0 < length xs → slice_index (with_line xs) 0 ≡ slice_index xs 0
  first_byte [] h = absurd (omega arith)
  first_byte (x ∷ xs) h = refl

  dropped : (n : ℕ) (xs : List ℕ) → n ≤ length xs → drop n (with_line xs) ≡ with_line (drop n xs)
  dropped n xs h = drop-append-le n xs (10 ∷ more) h

  -- ---- gaps

  gap_stays : (n : ℕ) (xs : List ℕ) → IsGap n xs → 0 < length xs → IsGap n (with_line xs)
  gap_stays n xs (white h e) some = white (ap is_white (first_byte xs some) ∙ h) e
  gap_stays n xs (comment h e) some = comment (first_byte xs some ∙ h) (e ∙ sym (same_run is_line_byte refl xs))

  pub blank_stays : (end place : ℕ) (bytes : List ℕ) → Cut end [] place bytes [] → Cut end (10 ∷ more) place (with_line bytes) []
  blank_stays end place bytes (here _ _ _ a b c) = here place (with_line bytes) [] a (ap with_line b) refl
  blank_stays end place bytes (behind_gap _ _ _ n g d) =
      let i = gap_inside n bytes g in
      let some : 0 < length bytes = omega (arith, i.0, i.1) in
      behind_gap place (with_line bytes) [] n (gap_stays n bytes g some)
      (subst (λ (u : List ℕ). Cut end (10 ∷ more) (place + n) u []) (sym (dropped n bytes i.1)) (blank_stays end (place + n) (drop n bytes) d))
  blank_stays end place bytes (behind_token _ _ _ k n us h e d) = absurd cc

  -- ---- the first word `end`

  same_word : (xs : List ℕ) → first_word (with_line xs) ≡ first_word xs
  same_word xs =
      ap (λ (n : ℕ). take n (with_line xs)) (same_run is_word_byte refl xs)
      ∙ take-append-le (prefix_len is_word_byte xs) xs (10 ∷ more) (prefix_len-le-length is_word_byte xs)

  passed_stays : (n : ℕ) (xs : List ℕ) → IsPassed n xs → 0 < length xs → IsPassed n (with_line xs)
  passed_stays n xs (ends.comment h e) some = ends.comment (first_byte xs some ∙ h) (e ∙ sym (same_run is_line_byte refl xs))
  passed_stays n xs (other_word h e f) some =
      other_word (ap is_word_byte (first_byte xs some) ∙ h) (e ∙ sym (same_run is_word_byte refl xs)) (λ w. f (sym (same_word xs) ∙ w))
  passed_stays n xs (other_byte s h f e) some =
      other_byte (omega (arith, length-append xs (10 ∷ more), some)) (λ w. h (sym (first_byte xs some) ∙ w)) (ap is_word_byte (first_byte xs some) ∙ f) e

  passes_stay : (last : ℕ) (rest : List ℕ) (place : ℕ) (bytes : List ℕ) → Passes last rest place bytes → Passes last (with_line rest) place (with_line bytes)
  passes_stay last rest place bytes (ends.here _ _ a b) = ends.here place (with_line bytes) a (ap with_line b)
  passes_stay last rest place bytes (ends.behind _ _ n p d) =
      let i = passed_inside n bytes p in
      let some : 0 < length bytes = omega (arith, i.0, i.1) in
      ends.behind place (with_line bytes) n (passed_stays n bytes p some)
      (subst (Passes last (with_line rest) (place + n)) (sym (dropped n bytes i.1)) (passes_stay last rest (place + n) (drop n bytes) d))

  pub first_end_stays : (text : List ℕ) (end : ℕ) → IsFirstEnd text end → IsFirstEnd (with_line text) end
  first_end_stays text end h = record {
    place = h.place;
    rest = with_line h.rest;
    before = passes_stay h.place h.rest 0 text h.before;
    word = same_word h.rest ∙ h.word;
    behind_word = h.behind_word;
  }
