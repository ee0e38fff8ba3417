-- What is shown of lexemes that can be written, without a semicolon among them, has neither ; nor
-- #.
use Rattle.std.proofs.Common.{◌≡◌, ℕ, zero, suc, ◌<◌, ◌==◌, ◌||◌, List, [], ◌∷◌, ◌++◌, Bool, true, false, Option, Some, None, length, get_or, refl, ap, ◌∙◌, subst, arith}
use Rattle.std.specs.Prelude.{decimal, if◌then◌else◌}
use Rattle.std.specs.List.{prefix_len}
use Rattle.std.proofs.lemmas.List.{append-nil}
use Rattle.std.proofs.lemmas.List.Sums.{prefix_len_passes}
use Rattle.geo_tokens.specs.declared.token.Keyword.TheVariants as keywords
use Rattle.geo_tokens.specs.declared.token.Sym.{Sym}
use Rattle.geo_tokens.specs.declared.token.Sym.TheVariants as syms
use Rattle.geo_tokens.specs.Class.{word_bytes, symbol_bytes}
use Rattle.geo_tokens.specs.Bytes.{is_digit, is_word_byte}
use Rattle.rule_print.specs.Canonical.{Written, name, number, word, symbol, sign, spelling, close, gap, shown_behind, shown}
use Rattle.rule_print.proofs.Lexemes.{IsWritten, token_at}
use Rattle.rule_print.proofs.ShownTokens.{AllWritten}
use Rattle.json_parts.specs.Form.{IsWord, IsFree}
use Rattle.json_parts.proofs.Words.{name_word}
use Rattle.json_round_trip.proofs.Semicolons.{IsInner, AreInner}

abbrev ends : ℕ → Bool
ends c = (c == 59) || (c == 35)

free_cons : (b : ℕ) (bs : List ℕ) → ends b ≡ false → IsFree bs → IsFree (b ∷ bs)
free_cons b bs e h zero d l = e
free_cons b bs e h (suc k) d l = h k d (omega (arith, l))

free_none : IsFree []
free_none k d l = absurd (omega (arith, l))

free_both : (xs ys : List ℕ) → IsFree xs → IsFree ys → IsFree (xs ++ ys)
free_both [] ys h g = g
free_both (x ∷ xs) ys h g = free_cons x (xs ++ ys) (h 0 0 (omega arith)) (free_both xs ys (λ k d l. h (suc k) d (omega (arith, l))) g)

word_byte_free : (b : ℕ) → is_word_byte b ≡ true → ends b ≡ false
word_byte_free b e = grind arith

digit_free : (b : ℕ) → is_digit b ≡ true → ends b ≡ false
digit_free b e = grind arith

run_free : (p : ℕ → Bool) → ((b : ℕ) → p b ≡ true → ends b ≡ false) → (bs : List ℕ) → length bs ≡ prefix_len p bs → IsFree bs
run_free p f bs e k d l = f (get_or bs k d) (prefix_len_passes p bs k d (subst (λ (n : ℕ). k < n) e l))

whole_run : (p : ℕ → Bool) (bs : List ℕ) → length bs ≡ prefix_len p (bs ++ []) → length bs ≡ prefix_len p bs
whole_run p bs e = e ∙ ap (prefix_len p) (append-nil bs)

one_free : (b : ℕ) → ends b ≡ false → IsFree (b ∷ [])
one_free b e = free_cons b [] e free_none

two_free : (b c : ℕ) → ends b ≡ false → ends c ≡ false → IsFree (b ∷ c ∷ [])
two_free b c e f = free_cons b (c ∷ []) e (one_free c f)

symbol_free : (s : Sym) → IsInner (symbol s) → IsFree (symbol_bytes s)
symbol_free syms.DotDot h = two_free 46 46 refl refl
symbol_free syms.Dot h = one_free 46 refl
symbol_free syms.Comma h = one_free 44 refl
symbol_free syms.Colon h = one_free 58 refl
symbol_free syms.Semicolon h = absurd h
symbol_free syms.ParenOpen h = one_free 40 refl
symbol_free syms.ParenClose h = one_free 41 refl
symbol_free syms.BracketOpen h = one_free 91 refl
symbol_free syms.BracketClose h = one_free 93 refl
symbol_free syms.Plus h = one_free 43 refl
symbol_free syms.Minus h = one_free 45 refl
symbol_free syms.Star h = one_free 42 refl
symbol_free syms.Slash h = one_free 47 refl
symbol_free syms.LessEqual h = two_free 60 61 refl refl
symbol_free syms.Less h = one_free 60 refl
symbol_free syms.GreaterEqual h = two_free 62 61 refl refl
symbol_free syms.Greater h = one_free 62 refl
symbol_free syms.Equal h = one_free 61 refl
symbol_free syms.NotEqual h = two_free 33 61 refl refl
symbol_free syms.At h = one_free 64 refl
symbol_free syms.Dollar h = one_free 36 refl

lexeme_free : (q : Written) → IsWritten q → IsInner q → IsFree (spelling q)
lexeme_free (name bytes) h i = λ k d l. word_byte_free (get_or bytes k d) ((name_word bytes h).bytes k d l)
lexeme_free (number n) h i = run_free is_digit digit_free (decimal n) (whole_run is_digit (decimal n) (token_at (number n) [] h refl).longest)
lexeme_free (word w) h i = run_free is_word_byte word_byte_free (word_bytes w) (whole_run is_word_byte (word_bytes w) (token_at (word w) [] h refl).form.longest)
lexeme_free (symbol s) h i = symbol_free s i
lexeme_free sign h i = one_free 45 refl

gap_free : (p : Option Written) (q : Written) → IsFree (gap p q)
gap_free None q = free_none
gap_free (Some p) q = by (close p q)
  where
    by : (b : Bool) → IsFree (if b then [] else 32 ∷ [])
    by true = free_none
    by false = one_free 32 refl

shown_behind_free : (p : Option Written) (qs : List Written) → AllWritten qs → AreInner qs → IsFree (shown_behind p qs)
shown_behind_free p [] h i = free_none
shown_behind_free p (q ∷ qs) h i =
    free_both (gap p q) (spelling q ++ shown_behind (Some q) qs) (gap_free p q) (free_both (spelling q) (shown_behind (Some q) qs) (lexeme_free q h.0 i.0) (shown_behind_free (Some q) qs h.1 i.1))

pub shown_free : (qs : List Written) → AllWritten qs → AreInner qs → IsFree (shown qs)
shown_free qs h i = shown_behind_free None qs h i

-- the word `absent` is a word
pub absent_word : IsWord (word_bytes keywords.Absent)
absent_word = record {
  some = omega arith;
  bytes = λ k d l. prefix_len_passes is_word_byte (word_bytes keywords.Absent) k d (subst (λ (n : ℕ). k < n) (whole_run is_word_byte (word_bytes keywords.Absent) (token_at (word keywords.Absent) [] tt refl).form.longest) l);
}
