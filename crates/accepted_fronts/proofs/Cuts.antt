-- A text that is cut into tokens: its part up to a token is cut into the same ones, which are the same bytes there.
use Rattle.std.proofs.Common.{◌≡◌, ℕ, ◌+◌, ◌-◌, ◌<◌, ◌≤◌, List, [], ◌∷◌, ◌++◌, length, take, drop, Bool, false, ◌==◌, inl, inr, refl, sym, ap, ◌∙◌, subst, append_assoc, arith}
use Rattle.std.specs.Prelude.{slice_index, cond}
use Rattle.std.specs.List.{prefix_len}
use Rattle.std.proofs.lemmas.Bool.{cases_Bool, cases_lt, eqb-true}
use Rattle.std.proofs.lemmas.List.{length-append, length-take, length-drop, drop-append-le, take-append-le, take-append-drop, get_or_append_left, get_or_past}
use Rattle.std.proofs.lemmas.List.Folds.{prefix_len-append}
use Rattle.geo_tokens.specs.declared.token.Token.{Token}
use Rattle.geo_tokens.specs.declared.token.Kind.{Kind}
use Rattle.geo_tokens.specs.declared.token.Kind.TheVariants as kinds
use Rattle.geo_tokens.specs.Bytes.{bytes_of, is_white, is_digit, is_letter, is_word_byte, is_line_byte, value_of}
use Rattle.geo_tokens.specs.Class.{symbol_bytes}
use Rattle.geo_tokens.specs.Cut.{IsGap, white, comment, IsWordForm, IsToken, Cut, here, behind_gap, behind_token}
use Rattle.geo_tokens.proofs.Cuts.{token_of}
use Rattle.geo_tokens.proofs.Fronts.{gap_inside, token_inside}
use Rattle.accepted_fronts.proofs.Alike.{AreSame}

-- ---- how far a cut goes

module _ (end : ℕ) (rest : List ℕ) where
  onwards : (place : ℕ) (bytes : List ℕ) (ts : List Token) → Cut end rest place bytes ts → place ≤ end
  onwards place bytes ts (here _ _ _ a b c) = omega arith
  onwards place bytes ts (behind_gap _ _ _ n g d) = let l = onwards (place + n) (drop n bytes) ts d in omega (arith, l)
  onwards place bytes ts (behind_token _ _ _ k n us g e d) = let l = onwards (place + n) (drop n bytes) us d in omega (arith, l)

  -- what was cut off, and that it ends there
  pub cut_front : (place : ℕ) (bytes : List ℕ) (ts : List Token) → Cut end rest place bytes ts → (xs : List ℕ) × (bytes ≡ xs ++ rest) × (place + length xs ≡ end)
  cut_front place bytes ts (here _ _ _ a b c) = ([], b, (let z : place + 0 ≡ end = omega arith in z))
  cut_front place bytes ts (behind_gap _ _ _ n g d) =
      let i = gap_inside n bytes g in
      let r = cut_front (place + n) (drop n bytes) ts d in (
        take n bytes ++ r.0,
        sym (take-append-drop n bytes) ∙ ap (λ (u : List ℕ). take n bytes ++ u) r.1 ∙ sym (append_assoc (take n bytes) r.0 rest),
        omega (arith, r.2, i.1, length-append (take n bytes) r.0, length-take n bytes),
      )
  cut_front place bytes ts (behind_token _ _ _ k n us g e d) =
      let i = token_inside k n bytes g in
      let r = cut_front (place + n) (drop n bytes) us d in (
        take n bytes ++ r.0,
        sym (take-append-drop n bytes) ∙ ap (λ (u : List ℕ). take n bytes ++ u) r.1 ∙ sym (append_assoc (take n bytes) r.0 rest),
        omega (arith, r.2, i.1, length-append (take n bytes) r.0, length-take n bytes),
      )

  -- the tokens end there at the latest, and are the same bytes in each text that goes so far
  pub tokens_same : (front more : List ℕ) → end ≤ length front → (place : ℕ) (bytes : List ℕ) (ts : List Token) → Cut end rest place bytes ts → AreSame (front ++ more) front ts
  tokens_same front more far place bytes ts (here _ _ _ a b c) = subst (AreSame (front ++ more) front) (sym c) tt
  tokens_same front more far place bytes ts (behind_gap _ _ _ n g d) = tokens_same front more far (place + n) (drop n bytes) ts d
  tokens_same front more far place bytes ts (behind_token _ _ _ k n us g e d) =
      let l = onwards (place + n) (drop n bytes) us d in
      let t : Token = token_of k place n in
      let size : n ≤ length (drop place front) = omega (arith, l, length-drop place front) in
      let some : (place + n) - place ≡ n = omega arith in
      let at : drop place (front ++ more) ≡ drop place front ++ more = drop-append-le place front more (omega (arith, l)) in
      let same : bytes_of (front ++ more) t ≡ bytes_of front t =
      ap (λ (m : ℕ). take m (drop place (front ++ more))) some ∙ ap (λ (u : List ℕ). take n u) at ∙ take-append-le n (drop place front) more size ∙ ap (λ (m : ℕ). take m (drop place front)) (sym some) in
      subst (AreSame (front ++ more) front) (sym e) (same, tokens_same front more far (place + n) (drop n bytes) us d)

-- ---- what stands at the front of some bytes, where others behind it are left out

module _ (rest : List ℕ) where
  run_before : (p : ℕ → Bool) (xs : List ℕ) → prefix_len p (xs ++ rest) ≤ length xs → prefix_len p (xs ++ rest) ≡ prefix_len p xs
  run_before p xs h = elim (cases_Bool (prefix_len p xs == length xs)) [
    | inl all ↦
        let more : prefix_len p (xs ++ rest) ≡ length xs + prefix_len p rest = prefix_len-append p xs rest ∙ ap (λ t. cond t (length xs + prefix_len p rest) (prefix_len p xs)) all in
        let same : prefix_len p xs ≡ length xs = eqb-true (prefix_len p xs) (length xs) all in
        omega (arith, h, more, same)
    | inr less ↦ prefix_len-append p xs rest ∙ ap (λ t. cond t (length xs + prefix_len p rest) (prefix_len p xs)) less
  ]

  first_before : (xs : List ℕ) → 0 < length xs → slice_index (xs ++ rest) 0 ≡ slice_index xs 0
  first_before xs some = get_or_append_left xs rest 0 0 some

  gap_before : (n : ℕ) (xs : List ℕ) → IsGap n (xs ++ rest) → 0 < n → n ≤ length xs → IsGap n xs
  gap_before n xs (white h e) some few = white (ap is_white (sym (first_before xs (omega arith))) ∙ h) e
  gap_before n xs (comment h e) some few =
      comment (sym (first_before xs (omega arith)) ∙ h) (e ∙ run_before is_line_byte xs (omega arith))

  form_before : (n : ℕ) (xs : List ℕ) → IsWordForm n (xs ++ rest) → 0 < n → n ≤ length xs → IsWordForm n xs
  form_before n xs h some few = record {
    begins = ap is_letter (sym (first_before xs (omega arith))) ∙ h.begins;
    longest = h.longest ∙ run_before is_word_byte xs (omega (arith, h.longest, few));
    short = h.short;
  }

  -- the byte behind a number
  behind_before : (n : ℕ) (xs : List ℕ) → is_letter (slice_index (xs ++ rest) n) ≡ false → is_letter (slice_index xs n) ≡ false
  behind_before n xs h = elim (cases_lt n (length xs)) [
    | inl l ↦ ap is_letter (sym (get_or_append_left xs rest 0 n l)) ∙ h
    | inr l ↦ ap is_letter (get_or_past xs n 0 l)
  ]

  token_before : (k : Kind) (n : ℕ) (xs : List ℕ) → IsToken k n (xs ++ rest) → 0 < n → n ≤ length xs → IsToken k n xs
  token_before kinds.Name n xs h some few = record {
    form = form_before n xs h.form some few;
    free = λ w e. h.free w (take-append-le n xs rest few ∙ e);
  }
  token_before (kinds.Word w) n xs h some few = record {
    form = form_before n xs h.form some few;
    spelled = sym (take-append-le n xs rest few) ∙ h.spelled;
  }
  token_before (kinds.Number v) n xs h some few = record {
    begins = ap is_digit (sym (first_before xs (omega arith))) ∙ h.begins;
    longest = h.longest ∙ run_before is_digit xs (omega (arith, h.longest, few));
    value = h.value ∙ ap value_of (take-append-le n xs rest few);
    small = h.small;
    ends = behind_before n xs h.ends;
  }
  token_before (kinds.Symbol s) n xs h some few = record {
    size = h.size;
    fits = sym (take-append-le (length (symbol_bytes s)) xs rest (omega (arith, h.size, few))) ∙ h.fits;
    longest = λ t f.
        (let size : length (take (length (symbol_bytes t)) xs) ≡ length (symbol_bytes t) = ap length f in
        h.longest t (take-append-le (length (symbol_bytes t)) xs rest (omega (arith, size, length-take (length (symbol_bytes t)) xs)) ∙ f));
  }

  -- ---- the cut of the front part

  -- bytes of two parts, of which some are dropped
  less_left : (n p place : ℕ) (bytes xs : List ℕ) → place + n ≤ p → place + length xs ≡ p → bytes ≡ xs ++ rest → (n ≤ length xs) × (drop n bytes ≡ drop n xs ++ rest) × (place + n + length (drop n xs) ≡ p)
  less_left n p place bytes xs l e q =
      let few : n ≤ length xs = omega arith in
      (few, ap (λ (u : List ℕ). drop n u) q ∙ drop-append-le n xs rest few, omega (arith, length-drop n xs))

  none_left : (xs : List ℕ) → length xs ≡ 0 → xs ≡ []
  none_left [] e = refl
  none_left (x ∷ xs) e = absurd (omega arith)

  pub cut_before : (p place : ℕ) (bytes : List ℕ) (ts : List Token) → Cut p rest place bytes ts → (xs : List ℕ) → bytes ≡ xs ++ rest → place + length xs ≡ p → Cut p [] place xs ts
  cut_before p place bytes ts (here _ _ _ a b c) xs q e = here place xs ts a (none_left xs (omega (arith, a, e))) c
  cut_before p place bytes ts (behind_gap _ _ _ n g d) xs q e =
      let i = gap_inside n bytes g in
      let r = less_left n p place bytes xs (onwards p rest (place + n) (drop n bytes) ts d) e q in
      behind_gap place xs ts n (gap_before n xs (subst (IsGap n) q g) i.0 r.0) (cut_before p (place + n) (drop n bytes) ts d (drop n xs) r.1 r.2)
  cut_before p place bytes ts (behind_token _ _ _ k n us g f d) xs q e =
      let i = token_inside k n bytes g in
      let r = less_left n p place bytes xs (onwards p rest (place + n) (drop n bytes) us d) e q in
      behind_token place xs ts k n us (token_before k n xs (subst (IsToken k n) q g) i.0 r.0) f (cut_before p (place + n) (drop n bytes) us d (drop n xs) r.1 r.2)

-- ---- the last token

-- The last token stands behind the others, and gaps stand behind it.
pub record HasLast (end : ℕ) (rest : List ℕ) (place : ℕ) (bytes : List ℕ) (us : List Token) (t : Token) : Type 0 where
  pub at : List ℕ
  pub size : ℕ
  pub ends : t.end ≡ t.start + size
  pub before : Cut t.start at place bytes us
  pub token : IsToken t.kind size at
  pub behind : Cut end rest (t.start + size) (drop size at) []

module _ (end : ℕ) (rest : List ℕ) (t : Token) where
  first_is_last : (place : ℕ) (bytes : List ℕ) (k : Kind) (n : ℕ) (others : List Token) → t ∷ [] ≡ token_of k place n ∷ others → IsToken k n bytes → Cut end rest (place + n) (drop n bytes) others
      → HasLast end rest place bytes [] t
  first_is_last place bytes k n others e g d =
      let same : token_of k place n ≡ t = cc in
      let none : others ≡ [] = cc in
      subst (HasLast end rest place bytes []) same (record {
        at = bytes;
        size = n;
        ends = refl;
        before = here place bytes [] refl refl refl;
        token = g;
        behind = subst (Cut end rest (place + n) (drop n bytes)) none d;
      })

  token_then : (place : ℕ) (bytes : List ℕ) (k : Kind) (n : ℕ) (us : List Token) → IsToken k n bytes → HasLast end rest (place + n) (drop n bytes) us t → HasLast end rest place bytes (token_of k place n ∷ us) t
  token_then place bytes k n us g r = record {
    at = r.at;
    size = r.size;
    ends = r.ends;
    before = behind_token place bytes (token_of k place n ∷ us) k n us g refl r.before;
    token = r.token;
    behind = r.behind;
  }

  pub has_last : (place : ℕ) (bytes : List ℕ) (ts : List Token) → Cut end rest place bytes ts → (us : List Token) → ts ≡ us ++ t ∷ [] → HasLast end rest place bytes us t
  has_last place bytes ts (here _ _ _ a b c) [] q = absurd cc
  has_last place bytes ts (here _ _ _ a b c) (u ∷ us) q = absurd cc
  has_last place bytes ts (behind_gap _ _ _ n g d) us q =
      let r = has_last (place + n) (drop n bytes) ts d us q in
      record { at = r.at; size = r.size; ends = r.ends; before = behind_gap place bytes us n g r.before; token = r.token; behind = r.behind }
  has_last place bytes ts (behind_token _ _ _ k n others g e d) [] q = first_is_last place bytes k n others (sym q ∙ e) g d
  has_last place bytes ts (behind_token _ _ _ k n others g e d) (u ∷ us) q =
      let whole : u ∷ (us ++ t ∷ []) ≡ token_of k place n ∷ others = sym q ∙ e in
      let same : token_of k place n ≡ u = cc in
      let left : others ≡ us ++ t ∷ [] = cc in
      subst (λ (v : Token). HasLast end rest place bytes (v ∷ us) t) same (token_then place bytes k n us g (has_last (place + n) (drop n bytes) others d us left))
