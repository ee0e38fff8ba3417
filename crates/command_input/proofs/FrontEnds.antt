-- The first word `end` of an input is that of a front part of it, where bytes of that part stand behind the word.
use Rattle.std.proofs.Common.{◌≡◌, ℕ, ◌+◌, ◌<◌, ◌≤◌, List, [], ◌∷◌, ◌++◌, length, take, drop, Bool, true, false, refl, sym, ap, ◌∙◌, subst, arith}
use Rattle.std.specs.Prelude.{slice_index, cond, codes}
use Rattle.std.specs.List.{prefix_len}
use Rattle.std.proofs.lemmas.List.{length-take, length-drop, length-append, drop-append-le, take-append-le}
use Rattle.std.proofs.lemmas.List.Sums.{prefix_len-le-length}
use Rattle.geo_tokens.specs.Bytes.{is_word_byte, is_line_byte}
use Rattle.geo_tokens.specs.FirstEnd.{first_word, IsPassed, comment, other_word, other_byte, Passes, here, behind, IsFirstEnd}
use Rattle.geo_tokens.proofs.Ends.{passed_inside}

module _ (ys : List ℕ) where
  -- a run that ends before the front part does is the run of the whole
  run-on : (p : ℕ → Bool) (xs : List ℕ) → prefix_len p xs < length xs → prefix_len p (xs ++ ys) ≡ prefix_len p xs
  run-on p [] h = absurd (omega arith)
  run-on p (x ∷ xs) h = go (λ l. run-on p xs l) (p x) refl
    where
      go : (prefix_len p xs < length xs → prefix_len p (xs ++ ys) ≡ prefix_len p xs) → (b : Bool) → p x ≡ b → cond (p x) (1 + prefix_len p (xs ++ ys)) 0 ≡ cond (p x) (1 + prefix_len p xs) 0
      go shorter true e =
          let q : cond (p x) (1 + prefix_len p xs) 0 ≡ 1 + prefix_len p xs = ap (λ t. cond t (1 + prefix_len p xs) 0) e in
          ap (λ m. cond (p x) (1 + m) 0) (shorter (omega (arith, h, q)))
      go shorter false e = ap (λ t. cond t (1 + prefix_len p (xs ++ ys)) 0) e ∙ sym (ap (λ t. cond t (1 + prefix_len p xs) 0) e)

  run-short : (p : ℕ → Bool) (xs : List ℕ) → prefix_len p (xs ++ ys) < length xs → prefix_len p xs < length xs
  run-short p [] h = absurd (omega arith)
  run-short p (x ∷ xs) h = go (λ l. run-short p xs l) (p x) refl
    where
      go : (prefix_len p (xs ++ ys) < length xs → prefix_len p xs < length xs) → (b : Bool) → p x ≡ b → prefix_len p (x ∷ xs) < length (x ∷ xs)
      go shorter true e =
          let q : cond (p x) (1 + prefix_len p (xs ++ ys)) 0 ≡ 1 + prefix_len p (xs ++ ys) = ap (λ t. cond t (1 + prefix_len p (xs ++ ys)) 0) e in
          let r : cond (p x) (1 + prefix_len p xs) 0 ≡ 1 + prefix_len p xs = ap (λ t. cond t (1 + prefix_len p xs) 0) e in
          let l = shorter (omega (arith, h, q)) in
          omega (arith, l, r)
      go shorter false e =
          let r : cond (p x) (1 + prefix_len p xs) 0 ≡ 0 = ap (λ t. cond t (1 + prefix_len p xs) 0) e in
          omega (arith, r)

  first-byte : (xs : List ℕ) → 0 < length xs → slice_index (xs ++ ys) 0 ≡ slice_index xs 0
  first-byte [] h = absurd (omega arith)
  first-byte (x ∷ xs) h = refl

  same-word : (xs : List ℕ) → prefix_len is_word_byte xs < length xs → first_word (xs ++ ys) ≡ first_word xs
  same-word xs h =
      ap (λ (n : ℕ). take n (xs ++ ys)) (run-on is_word_byte xs h)
      ∙ take-append-le (prefix_len is_word_byte xs) xs ys (omega (arith, h))

  -- ---- a step

  passed-on : (n : ℕ) (xs : List ℕ) → IsPassed n xs → n < length xs → IsPassed n (xs ++ ys)
  passed-on n xs (comment b e) h = comment (first-byte xs (omega arith) ∙ b) (e ∙ sym (run-on is_line_byte xs (omega (arith, e, h))))
  passed-on n xs (other_word b e f) h =
      let l : prefix_len is_word_byte xs < length xs = omega (arith, e, h) in
      other_word (ap is_word_byte (first-byte xs (omega arith)) ∙ b) (e ∙ sym (run-on is_word_byte xs l)) (λ w. f (sym (same-word xs l) ∙ w))
  passed-on n xs (other_byte some b f e) h =
      other_byte (omega (arith, length-append xs ys, some)) (λ w. b (sym (first-byte xs some) ∙ w)) (ap is_word_byte (first-byte xs some) ∙ f) e

  passed-back : (n : ℕ) (xs : List ℕ) → IsPassed n (xs ++ ys) → n < length xs → IsPassed n xs
  passed-back n xs (comment b e) h =
      let l = run-short is_line_byte xs (omega (arith, e, h)) in
      comment (sym (first-byte xs (omega arith)) ∙ b) (e ∙ run-on is_line_byte xs l)
  passed-back n xs (other_word b e f) h =
      let l = run-short is_word_byte xs (omega (arith, e, h)) in
      other_word (ap is_word_byte (sym (first-byte xs (omega arith))) ∙ b) (e ∙ run-on is_word_byte xs l) (λ w. f (same-word xs l ∙ w))
  passed-back n xs (other_byte some b f e) h =
      other_byte (omega arith) (λ w. b (first-byte xs (omega arith) ∙ w)) (ap is_word_byte (sym (first-byte xs (omega arith))) ∙ f) e

  -- ---- the way

  passes-size : (last : ℕ) (rest : List ℕ) (place : ℕ) (bytes : List ℕ) → Passes last rest place bytes → (place ≤ last) × (last + length rest ≡ place + length bytes)
  passes-size last rest place bytes (here _ _ a b) = (omega (arith, a), omega (arith, a, ap length b))
  passes-size last rest place bytes (behind _ _ n p t) =
      let i = passed_inside n bytes p in
      let s = passes-size last rest (place + n) (drop n bytes) t in
      (omega (arith, s), omega (arith, s, i, length-drop n bytes))

  passes-on : (last : ℕ) (rest : List ℕ) (place : ℕ) (bytes : List ℕ) → Passes last rest place bytes → 0 < length rest → Passes last (rest ++ ys) place (bytes ++ ys)
  passes-on last rest place bytes (here _ _ a b) some = here place (bytes ++ ys) a (ap (λ (u : List ℕ). u ++ ys) b)
  passes-on last rest place bytes (behind _ _ n p t) some =
      let i = passed_inside n bytes p in
      let s = passes-size last rest (place + n) (drop n bytes) t in
      let short : n < length bytes = omega (arith, some, s, i, length-drop n bytes) in
      behind place (bytes ++ ys) n (passed-on n bytes p short)
      (subst (Passes last (rest ++ ys) (place + n)) (sym (drop-append-le n bytes ys (omega (arith, short)))) (passes-on last rest (place + n) (drop n bytes) t some))

  passes-back : (last : ℕ) (rest : List ℕ) (place : ℕ) (zs : List ℕ) → Passes last rest place zs → (bytes : List ℕ) → zs ≡ bytes ++ ys → last < place + length bytes
      → (r : List ℕ) × (rest ≡ r ++ ys) × Passes last r place bytes
  passes-back last rest place zs (here _ _ a b) bytes e h = (bytes, sym b ∙ e, here place bytes a refl)
  passes-back last rest place zs (behind _ _ n p t) bytes e h =
      let s = passes-size last rest (place + n) (drop n zs) t in
      let short : n < length bytes = omega (arith, s, h) in
      let p' = passed-back n bytes (subst (IsPassed n) e p) short in
      let d : drop n zs ≡ drop n bytes ++ ys = ap (λ (u : List ℕ). drop n u) e ∙ drop-append-le n bytes ys (omega (arith, short)) in
      let more = passes-back last rest (place + n) (drop n zs) t (drop n bytes) d (omega (arith, h, short, length-drop n bytes)) in
      (more.0, more.1, behind place bytes n p' more.2)

  end-long : (rest : List ℕ) → first_word rest ≡ codes "end" → prefix_len is_word_byte rest ≡ 3
  end-long rest w = (let e : length (first_word rest) ≡ 3 = ap length w in omega (arith, e, length-take (prefix_len is_word_byte rest) rest, prefix_len-le-length is_word_byte rest))

  pub end-on : (xs : List ℕ) (e : ℕ) → IsFirstEnd xs e → e < length xs → IsFirstEnd (xs ++ ys) e
  end-on xs e h short =
      let s = passes-size h.place h.rest 0 xs h.before in
      let w = end-long h.rest h.word in
      record {
        place = h.place;
        rest = h.rest ++ ys;
        before = passes-on h.place h.rest 0 xs h.before (omega (arith, s, short, h.behind_word));
        word = same-word h.rest (omega (arith, w, s, short, h.behind_word)) ∙ h.word;
        behind_word = h.behind_word;
      }

  pub end-back : (xs : List ℕ) (e : ℕ) → IsFirstEnd (xs ++ ys) e → e < length xs → IsFirstEnd xs e
  end-back xs e h short =
      let b = passes-back h.place h.rest 0 (xs ++ ys) h.before xs refl (omega (arith, short, h.behind_word)) in
      let s = passes-size h.place b.0 0 xs b.2 in
      let w : first_word (b.0 ++ ys) ≡ codes "end" = subst (λ (u : List ℕ). first_word u ≡ codes "end") b.1 h.word in
      let l = run-short is_word_byte b.0 (omega (arith, end-long (b.0 ++ ys) w, s, short, h.behind_word)) in
      record { place = h.place; rest = b.0; before = b.2; word = sym (same-word b.0 l) ∙ w; behind_word = h.behind_word }
