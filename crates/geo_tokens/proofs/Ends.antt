-- The way to the first word `end`: one step after the other, and one way.
use Rattle.std.proofs.Common.{◌≡◌, ℕ, ◌+◌, ◌<◌, ◌≤◌, List, [], ◌∷◌, length, take, drop, Option, Some, None, true, false, refl, sym, ap, ◌∙◌, subst, arith}
use Rattle.std.specs.Prelude.{slice_index, cond, codes, MatchOption}
use Rattle.std.specs.List.{prefix_len}
use Rattle.std.proofs.lemmas.List.{length-take}
use Rattle.geo_tokens.specs.Bytes.{is_word_byte}
use Rattle.geo_tokens.specs.FirstEnd.{first_word, IsPassed, comment, other_word, other_byte, Passes, here, behind, HasNoEnd, IsFirstEnd, IsOnlyEnd}
use Rattle.geo_tokens.specs.Cut as gaps
use Rattle.geo_tokens.proofs.Fronts.{run_inside, gap_inside}

-- ---- sizes

pub passed_inside : (n : ℕ) (bytes : List ℕ) → IsPassed n bytes → (0 < n) × (n ≤ length bytes)
passed_inside n bytes (comment h e) = gap_inside n bytes (gaps.comment h e)
passed_inside n bytes (other_word h e f) = run_inside is_word_byte n bytes h refl e
passed_inside n bytes (other_byte s h w e) = (omega arith, omega arith)

end_bytes : (bytes : List ℕ) → first_word bytes ≡ codes "end" → 3 ≤ length bytes
end_bytes bytes h = (let e : length (take (prefix_len is_word_byte bytes) bytes) ≡ 3 = ap length h in omega (arith, length-take (prefix_len is_word_byte bytes) bytes))

pub step_inside : (o : Option ℕ) (bytes : List ℕ) → MatchOption o (first_word bytes ≡ codes "end") (λ n. IsPassed n bytes) → MatchOption o (3 ≤ length bytes) (λ n. (0 < n) × (n ≤ length bytes))
step_inside None bytes h = end_bytes bytes h
step_inside (Some n) bytes h = passed_inside n bytes h

-- ---- a step more

pub none_passed : (place : ℕ) (bytes : List ℕ) → Passes place bytes place bytes
none_passed place bytes = here place bytes refl refl

pub passed_more : (p n : ℕ) (rest : List ℕ) → IsPassed n rest → (place : ℕ) (bytes : List ℕ) → Passes p rest place bytes → Passes (p + n) (drop n rest) place bytes
passed_more p n rest g place bytes (here _ _ a b) =
    behind place bytes n (subst (λ (u : List ℕ). IsPassed n u) (sym b) g) (here (place + n) (drop n bytes) (ap (λ (m : ℕ). m + n) a) (ap (λ (u : List ℕ). drop n u) b))
passed_more p n rest g place bytes (behind _ _ m h d) = behind place bytes m h (passed_more p n rest g (place + m) (drop m bytes) d)

-- ---- one way

no_word : (bytes : List ℕ) → is_word_byte (slice_index bytes 0) ≡ false → first_word bytes ≡ codes "end" → ⊥
no_word [] h e = absurd cc
no_word (b ∷ bytes) h e =
    let z : prefix_len is_word_byte (b ∷ bytes) ≡ 0 = ap (λ t. cond t (1 + prefix_len is_word_byte bytes) 0) h in
    let nothing : [] ≡ codes "end" = sym (ap (λ (n : ℕ). take n (b ∷ bytes)) z) ∙ e in
    absurd cc

passed_or_end : (n : ℕ) (bytes : List ℕ) → IsPassed n bytes → first_word bytes ≡ codes "end" → ⊥
passed_or_end n bytes (comment h e) w = no_word bytes (ap is_word_byte h) w
passed_or_end n bytes (other_word h e f) w = f w
passed_or_end n bytes (other_byte s h f e) w = no_word bytes f w

clash : (b : ℕ) → is_word_byte b ≡ true → is_word_byte b ≡ false → ⊥
clash b h k = (let e : true ≡ false = sym h ∙ k in absurd cc)

same_passed : (n m : ℕ) (bytes : List ℕ) → IsPassed n bytes → IsPassed m bytes → n ≡ m
same_passed n m bytes (comment a b) (comment c d) = b ∙ sym d
same_passed n m bytes (comment a b) (other_word c d e) = absurd (clash (slice_index bytes 0) c (ap is_word_byte a))
same_passed n m bytes (comment a b) (other_byte c d e f) = absurd (d a)
same_passed n m bytes (other_word a b z) (comment c d) = absurd (clash (slice_index bytes 0) a (ap is_word_byte c))
same_passed n m bytes (other_word a b z) (other_word c d e) = b ∙ sym d
same_passed n m bytes (other_word a b z) (other_byte c d e f) = absurd (clash (slice_index bytes 0) a e)
same_passed n m bytes (other_byte a b c z) (comment d e) = absurd (b d)
same_passed n m bytes (other_byte a b c z) (other_word d e f) = absurd (clash (slice_index bytes 0) d c)
same_passed n m bytes (other_byte a b c z) (other_byte d e f g) = z ∙ sym g

-- what the way ends with: nothing, or the word
abbrev Stops : Option ℕ → List ℕ → Type 0
Stops None bytes = bytes ≡ []
Stops (Some e) bytes = first_word bytes ≡ codes "end"

not_passed : (o : Option ℕ) (n : ℕ) (bytes : List ℕ) → Stops o bytes → IsPassed n bytes → ⊥
not_passed None n bytes s g = (let q = passed_inside n bytes g in let z : length bytes ≡ 0 = ap length s in let a : 0 < n = q.0 in let i : n ≤ length bytes = q.1 in omega arith)
not_passed (Some e) n bytes s g = passed_or_end n bytes g s

module _ (p q : ℕ) (rest last : List ℕ) (o r : Option ℕ) (so : Stops o rest) (sr : Stops r last) where
  one_way : (place : ℕ) (bytes : List ℕ) → Passes p rest place bytes → Passes q last place bytes → (p ≡ q) × (rest ≡ last)
  one_way place bytes (here _ _ a b) (here _ _ c d) = (sym a ∙ c, sym b ∙ d)
  one_way place bytes (here _ _ a b) (behind _ _ n g y) = absurd (not_passed o n rest so (subst (λ (u : List ℕ). IsPassed n u) b g))
  one_way place bytes (behind _ _ n g x) (here _ _ c d) = absurd (not_passed r n last sr (subst (λ (u : List ℕ). IsPassed n u) d g))
  one_way place bytes (behind _ _ n g x) (behind _ _ m h y) =
      one_way (place + n) (drop n bytes) x (subst (λ (j : ℕ). Passes q last (place + j) (drop j bytes)) (same_passed m n bytes h g) y)

none_or_end : (text : List ℕ) (e : ℕ) → HasNoEnd text → IsFirstEnd text e → ⊥
none_or_end text e x y =
    let s = one_way (length text) y.place [] y.rest None (Some e) refl y.word 0 text x y.before in
    let few : 3 ≤ length y.rest = end_bytes y.rest y.word in
    let none : 0 ≡ length y.rest = ap length s.1 in
    omega arith

one_end : (text : List ℕ) (e f : ℕ) → IsFirstEnd text e → IsFirstEnd text f → e ≡ f
one_end text e f x y = x.behind_word ∙ ap (λ (m : ℕ). m + 3) (one_way x.place y.place x.rest y.rest (Some e) (Some f) x.word y.word 0 text x.before y.before).0 ∙ sym y.behind_word

pub only_end : (o : Option ℕ) (text : List ℕ) → MatchOption o (HasNoEnd text) (IsFirstEnd text) → IsOnlyEnd o text
only_end None text h = λ e x. none_or_end text e h x
only_end (Some end) text h = (λ x. none_or_end text end x h, λ e x. one_end text e end x h)
