-- A run begins with a byte, and goes on with one.
use Rattle.std.proofs.Common.{◌≡◌, ℕ, ◌+◌, ◌-◌, ◌*◌, List, [], ◌∷◌, ◌++◌, length, get_or, Bool, true, false, not, ◌||◌, ◌⊎◌, subst, Option, Some, None, inl, inr, sym, ap, refl, arith}
use Rattle.std.specs.Option.{is_some}
use Rattle.std.proofs.lemmas.Bool.{ne_eqb, eqb-true}
use Rattle.std.specs.List.{prefix_len}
use Rattle.geo_tokens.specs.declared.token.Sym.{Sym}
use Rattle.geo_tokens.specs.Class.{symbol_bytes}
use Rattle.geo_tokens.specs.Spelled.{spelled_as, short_symbols}
use Rattle.geo_tokens.specs.Bytes.{is_digit, is_letter, is_word_byte, is_line_byte, value_of}
use Rattle.geo_tokens.specs.Cut.{IsGap, white, comment}
use Rattle.geo_tokens.proofs.Spellings.{found}
use Rattle.geo_tokens.proofs.Symbols.{no_long_alone}
use Rattle.token_stream.specs.declared.run.Run.{Run}
use Rattle.token_stream.specs.declared.run.Run.TheVariants as runs
use Rattle.token_stream.specs.Run.{IsMadeOf, is_hash, IsValue, IsMark, IsRun, IsOver, EndsAt, GoesOn, is_word}
use Rattle.token_stream.proofs.Made.{made_more, made_longest, one_passes, first_stays}
use Rattle.token_stream.proofs.Numbers.{digits_more}

pub comment_on : (b : ℕ) → (b ≡ 10 → ⊥) → GoesOn runs.Comment runs.Comment b
comment_on b h = record { bytes = λ rest c. made_more is_hash is_line_byte rest c b refl (ap not (ne_eqb b 10 h)); same = refl }

pub word_on : (b : ℕ) → is_word_byte b ≡ true → GoesOn runs.Word runs.Word b
word_on b h = record { bytes = λ rest w. made_more is_letter is_word_byte rest w b refl h; same = refl }

pub digits_on : (v w b : ℕ) → is_digit b ≡ true → ((x : ℕ) → IsValue v x → IsValue w (10 * x + (b - 48))) → GoesOn (runs.Digits v) (runs.Digits w) b
digits_on v w b h more = record { bytes = λ rest d. digits_more v w rest b d h (more (value_of rest) d.1); same = refl }

-- one digit
pub one_digit : (v b : ℕ) → is_digit b ≡ true → IsValue v (10 * 0 + (b - 48)) → IsMadeOf is_digit is_digit (b ∷ []) × IsValue v (0 + (b - 48))
one_digit v b h i = (record { begins = h; whole = one_passes is_digit b h }, i)

-- a byte that is a symbol
pub mark_of : (o : Option Sym) (b : ℕ) → o ≡ spelled_as symbol_bytes short_symbols (b ∷ []) → is_some o ≡ true → IsMark b
mark_of None b e h = absurd cc
mark_of (Some s) b e h = inr (s, found symbol_bytes short_symbols (b ∷ []) s (sym e))

-- ---- the end of a run

-- white space and comments are gaps
pub space_ended : (rest more : List ℕ) → IsRun runs.Space rest → (length rest ≡ 0) ⊎ IsGap (length rest) (rest ++ more)
space_ended rest more (inl e) = inl (ap length e)
space_ended rest more (inr h) = inr (subst (λ (u : List ℕ). IsGap (length u) (u ++ more)) (sym h.1) (white h.2 refl))

pub comment_ended : (rest more : List ℕ) → IsRun runs.Comment rest → IsOver runs.Comment more → IsGap (length rest) (rest ++ more)
comment_ended rest more made over =
    comment (eqb-true (get_or (rest ++ more) 0 0) 35 (first_stays is_hash rest more refl made.begins)) (made_longest is_hash is_line_byte rest made more over)

-- no run goes on into nothing
pub over_at_end : (run : Run) → IsOver run []
over_at_end runs.Space = tt
over_at_end runs.Comment = refl
over_at_end runs.Word = refl
over_at_end (runs.Digits v) = refl
over_at_end (runs.Mark b) = no_long_alone b
over_at_end (runs.Pair s) = tt

-- a byte that does not pass at the front
passes_not : (p : ℕ → Bool) (b : ℕ) (t : Bool) → p b ≡ t → prefix_len p (b ∷ []) ≡ 0 → t ≡ false
passes_not p b false e h = refl
passes_not p b true e h = absurd (let one : prefix_len p (b ∷ []) ≡ 1 = one_passes p b e in omega arith)

no_left : (a b : Bool) → (a || b) ≡ false → a ≡ false
no_left true b h = h
no_left false b h = refl

-- no letter stands behind a word
pub word_over : (run : Run) (b : ℕ) → is_word run ≡ true → EndsAt run b → is_letter b ≡ false
word_over runs.Word b w over = no_left (is_letter b) (is_digit b) (passes_not is_word_byte b (is_word_byte b) refl (over []))
word_over runs.Space b w over = absurd cc
word_over runs.Comment b w over = absurd cc
word_over (runs.Digits v) b w over = absurd cc
word_over (runs.Mark m) b w over = absurd cc
word_over (runs.Pair s) b w over = absurd cc

-- only a word is one
pub word_is : (run : Run) → is_word run ≡ true → run ≡ runs.Word
word_is runs.Word h = refl
word_is runs.Space h = absurd cc
word_is runs.Comment h = absurd cc
word_is (runs.Digits v) h = absurd cc
word_is (runs.Mark m) h = absurd cc
word_is (runs.Pair s) h = absurd cc
