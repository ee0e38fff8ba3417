-- The tokens of lexemes: each stands at the front of its bytes, whatever stands behind it, if only it does not go on there.
use Rattle.std.proofs.Common.{◌≡◌, ℕ, ◌+◌, ◌*◌, ◌-◌, ◌/◌, ◌%◌, ◌<◌, ◌≤◌, ◌^◌, List, [], ◌∷◌, ◌++◌, length, Option, Some, None, Bool, true, false, ◌==◌, ◌||◌, ◌&&◌, inl, inr, refl, sym, ap, ◌∙◌, subst, arith, lit≤}
use Rattle.std.specs.Prelude.{not, cond, nat_le, slice_index, decimal, if◌then◌else◌}
use Rattle.std.specs.List.{prefix_len}
use Rattle.std.proofs.lemmas.Bool.{cases_Bool, eqb-true, eq-eqb, le-leb, or_cases, and_parts, or_parts}
use Rattle.std.proofs.lemmas.List.{get_or-append-add, length-append}
use Rattle.std.proofs.lemmas.List.Folds.{prefix_len-append}
use Rattle.std.proofs.lemmas.List.Sums.{prefix_len_passes}
use Rattle.std.proofs.lemmas.Fmt.{decimal_by_steps}
use Rattle.std.proofs.Math.Seq.{take-append_seam, take-length}
use Rattle.geo_tokens.specs.declared.token.Keyword.{Keyword}
use Rattle.geo_tokens.specs.declared.token.Keyword.TheVariants as keywords
use Rattle.geo_tokens.specs.declared.token.Sym.{Sym}
use Rattle.geo_tokens.specs.declared.token.Sym.TheVariants as syms
use Rattle.geo_tokens.specs.Class.{word_bytes, symbol_bytes}
use Rattle.geo_tokens.specs.Bytes.{is_letter, is_digit, is_word_byte, value_from, value_of}
use Rattle.geo_tokens.specs.Spelled.{spelled_as, long_symbols, short_symbols}
use Rattle.geo_tokens.specs.Cut.{IsWordForm, IsName, IsReserved, IsNumber, IsSymbol, IsToken}
use Rattle.geo_tokens.specs.Names.{IsNameText}
use Rattle.geo_tokens.proofs.Symbols.{short_is, long_is, no_long, no_long_alone}
use Rattle.rule_print.specs.Canonical.{Written, name, number, word, symbol, sign, kind_of, spelling, closes, is_called, is_open, is_name, close}

-- what can be written: the text of a name, a number that is not too large, any word and any symbol
abbrev pub IsWritten : Written → Type 0
IsWritten (name bytes) = IsNameText bytes
IsWritten (number n) = n ≤ 1000000000
IsWritten _ = Unit {0}

-- a byte with which the token does not go on
abbrev pub ends_at : Written → ℕ → Bool
ends_at (symbol syms.Dot) b = not (b == 46)
ends_at (symbol syms.Less) b = not (b == 61)
ends_at (symbol syms.Greater) b = not (b == 61)
ends_at (symbol _) b = true
ends_at sign b = true
ends_at _ b = not (is_word_byte b)

not_true : (b : Bool) → not b ≡ true → b ≡ false
not_true true h = absurd cc
not_true false h = refl

-- ---- runs

run_stops : (p : ℕ → Bool) (u : List ℕ) → p (slice_index u 0) ≡ false → prefix_len p u ≡ 0
run_stops p [] f = refl
run_stops p (b ∷ u) f = ap (λ t. cond t (1 + prefix_len p u) 0) f

-- a run that takes all of some bytes ends behind them, if it does not go on there
run_on : (p : ℕ → Bool) (bytes u : List ℕ) → length bytes ≡ prefix_len p bytes → p (slice_index u 0) ≡ false → length bytes ≡ prefix_len p (bytes ++ u)
run_on p bytes u e f =
    let test : (prefix_len p bytes == length bytes) ≡ true = eq-eqb (prefix_len p bytes) (length bytes) (sym e) in
    let zero_more : length bytes + prefix_len p u ≡ length bytes = omega (arith, run_stops p u f) in
    sym (prefix_len-append p bytes u ∙ ap (λ t. cond t (length bytes + prefix_len p u) (prefix_len p bytes)) test ∙ zero_more)

first_on : (p : ℕ → Bool) (bytes u : List ℕ) → p 0 ≡ false → p (slice_index bytes 0) ≡ true → p (slice_index (bytes ++ u) 0) ≡ true
first_on p [] u z f = absurd (let e : true ≡ false = sym f ∙ z in cc)
first_on p (b ∷ bytes) u z f = f

-- ---- words and names

word_form : (w : Keyword) → IsWordForm (length (word_bytes w)) (word_bytes w)
word_form keywords.Geost = record { begins = refl; longest = refl; short = lit≤ tt }
word_form keywords.Dims = record { begins = refl; longest = refl; short = lit≤ tt }
word_form keywords.Shape = record { begins = refl; longest = refl; short = lit≤ tt }
word_form keywords.Box = record { begins = refl; longest = refl; short = lit≤ tt }
word_form keywords.Size = record { begins = refl; longest = refl; short = lit≤ tt }
word_form keywords.Object = record { begins = refl; longest = refl; short = lit≤ tt }
word_form keywords.As = record { begins = refl; longest = refl; short = lit≤ tt }
word_form keywords.At = record { begins = refl; longest = refl; short = lit≤ tt }
word_form keywords.With = record { begins = refl; longest = refl; short = lit≤ tt }
word_form keywords.Order = record { begins = refl; longest = refl; short = lit≤ tt }
word_form keywords.Sides = record { begins = refl; longest = refl; short = lit≤ tt }
word_form keywords.Low = record { begins = refl; longest = refl; short = lit≤ tt }
word_form keywords.High = record { begins = refl; longest = refl; short = lit≤ tt }
word_form keywords.Macro = record { begins = refl; longest = refl; short = lit≤ tt }
word_form keywords.Means = record { begins = refl; longest = refl; short = lit≤ tt }
word_form keywords.Is = record { begins = refl; longest = refl; short = lit≤ tt }
word_form keywords.Rule = record { begins = refl; longest = refl; short = lit≤ tt }
word_form keywords.Apart = record { begins = refl; longest = refl; short = lit≤ tt }
word_form keywords.Within = record { begins = refl; longest = refl; short = lit≤ tt }
word_form keywords.End = record { begins = refl; longest = refl; short = lit≤ tt }
word_form keywords.True = record { begins = refl; longest = refl; short = lit≤ tt }
word_form keywords.False = record { begins = refl; longest = refl; short = lit≤ tt }
word_form keywords.Not = record { begins = refl; longest = refl; short = lit≤ tt }
word_form keywords.And = record { begins = refl; longest = refl; short = lit≤ tt }
word_form keywords.Or = record { begins = refl; longest = refl; short = lit≤ tt }
word_form keywords.Implies = record { begins = refl; longest = refl; short = lit≤ tt }
word_form keywords.Iff = record { begins = refl; longest = refl; short = lit≤ tt }
word_form keywords.ForAll = record { begins = refl; longest = refl; short = lit≤ tt }
word_form keywords.Exists = record { begins = refl; longest = refl; short = lit≤ tt }
word_form keywords.AtLeast = record { begins = refl; longest = refl; short = lit≤ tt }
word_form keywords.AtMost = record { begins = refl; longest = refl; short = lit≤ tt }
word_form keywords.In = record { begins = refl; longest = refl; short = lit≤ tt }
word_form keywords.Objects = record { begins = refl; longest = refl; short = lit≤ tt }
word_form keywords.Boxes = record { begins = refl; longest = refl; short = lit≤ tt }
word_form keywords.Of = record { begins = refl; longest = refl; short = lit≤ tt }
word_form keywords.Div = record { begins = refl; longest = refl; short = lit≤ tt }
word_form keywords.Mod = record { begins = refl; longest = refl; short = lit≤ tt }
word_form keywords.Min = record { begins = refl; longest = refl; short = lit≤ tt }
word_form keywords.Max = record { begins = refl; longest = refl; short = lit≤ tt }
word_form keywords.Int = record { begins = refl; longest = refl; short = lit≤ tt }
word_form keywords.Layout = record { begins = refl; longest = refl; short = lit≤ tt }
word_form keywords.Token = record { begins = refl; longest = refl; short = lit≤ tt }
word_form keywords.Absent = record { begins = refl; longest = refl; short = lit≤ tt }
word_form keywords.Qed = record { begins = refl; longest = refl; short = lit≤ tt }

form_on : (bytes u : List ℕ) → IsWordForm (length bytes) bytes → is_word_byte (slice_index u 0) ≡ false → IsWordForm (length bytes) (bytes ++ u)
form_on bytes u h f = record { begins = first_on is_letter bytes u refl h.begins; longest = run_on is_word_byte bytes u h.longest f; short = h.short }

name_at : (bytes u : List ℕ) → IsNameText bytes → is_word_byte (slice_index u 0) ≡ false → IsName (length bytes) (bytes ++ u)
name_at bytes u h f = record {
  form = form_on bytes u h.form f;
  free = λ w e. h.free w (take-length bytes ∙ sym (take-append_seam bytes u) ∙ e);
}

word_at : (w : Keyword) (u : List ℕ) → is_word_byte (slice_index u 0) ≡ false → IsReserved w (length (word_bytes w)) (word_bytes w ++ u)
word_at w u f = record { form = form_on (word_bytes w) u (word_form w) f; spelled = take-append_seam (word_bytes w) u }

-- ---- numbers

value_more : (v : ℕ) (ds : List ℕ) (d : ℕ) → value_from v (ds ++ d ∷ []) ≡ 10 * value_from v ds + (d - 48)
value_more v [] d = refl
value_more v (c ∷ ds) d = value_more (10 * v + (c - 48)) ds d

-- n is what these digits write
record Writes (n : ℕ) (ds : List ℕ) : Type 0 where
  pub some : 0 < length ds
  pub all_digits : length ds ≡ prefix_len is_digit ds
  pub value : n ≡ value_of ds

digit_is : (k : ℕ) → k < 10 → is_digit (48 + k) ≡ true
digit_is k h = ap (λ b. b && nat_le (48 + k) 57) (le-leb 48 (48 + k) (omega arith)) ∙ le-leb (48 + k) 57 (omega arith)

one_digit : (k : ℕ) → k < 10 → length ((48 + k) ∷ []) ≡ prefix_len is_digit ((48 + k) ∷ [])
one_digit k h = sym (ap (λ t. cond t 1 0) (digit_is k h))

digits_more : (ds : List ℕ) (k : ℕ) → k < 10 → length ds ≡ prefix_len is_digit ds → length (ds ++ (48 + k) ∷ []) ≡ prefix_len is_digit (ds ++ (48 + k) ∷ [])
digits_more ds k h e =
    let test : (prefix_len is_digit ds == length ds) ≡ true = eq-eqb (prefix_len is_digit ds) (length ds) (sym e) in
    let one : prefix_len is_digit ((48 + k) ∷ []) ≡ 1 = sym (one_digit k h) in
    let all : prefix_len is_digit (ds ++ (48 + k) ∷ []) ≡ length ds + prefix_len is_digit ((48 + k) ∷ []) =
    prefix_len-append is_digit ds ((48 + k) ∷ []) ∙ ap (λ t. cond t (length ds + prefix_len is_digit ((48 + k) ∷ [])) (prefix_len is_digit ds)) test in
    omega (arith, length-append ds ((48 + k) ∷ []))

decimal_writes : (n : ℕ) → n < 2 ^ 64 → Writes n (decimal n)
decimal_writes = decimal_by_steps Writes
    (λ n l. record { some = omega arith; all_digits = one_digit n l; value = omega arith })
    (λ n ds l h. record {
      some = omega (arith, length-append ds ((48 + n % 10) ∷ []));
      all_digits = digits_more ds (n % 10) (omega arith) h.all_digits;
      value = (let e : n / 10 ≡ value_of ds = h.value in omega (arith, value_more 0 ds (48 + n % 10)));
    })

number_at : (n : ℕ) (u : List ℕ) → n ≤ 1000000000 → is_word_byte (slice_index u 0) ≡ false → IsNumber n (length (decimal n)) (decimal n ++ u)
number_at n u small f =
    let h = decimal_writes n (omega arith) in
    let parts = or_parts (is_letter (slice_index u 0)) (is_digit (slice_index u 0)) f in
    let some : 0 < length (decimal n) = h.some in
    let first : is_digit (slice_index (decimal n) 0) ≡ true = prefix_len_passes is_digit (decimal n) 0 0 (omega (arith, h.all_digits)) in
    let behind : slice_index (decimal n ++ u) (length (decimal n)) ≡ slice_index u 0 = ap (λ k. slice_index (decimal n ++ u) k) (omega arith) ∙ get_or-append-add (decimal n) u 0 0 in
    record {
      begins = first_on is_digit (decimal n) u refl first;
      longest = run_on is_digit (decimal n) u h.all_digits parts.1;
      value = h.value ∙ ap value_of (sym (take-append_seam (decimal n) u));
      small = small;
      ends = ap is_letter behind ∙ parts.0;
    }

-- ---- symbols

-- a symbol of one byte, where no other goes on with the next byte
short_at : (a : ℕ) (s : Sym) (u : List ℕ) → Some s ≡ spelled_as symbol_bytes short_symbols (a ∷ []) → ((b : ℕ) → ends_at (symbol s) b ≡ true → None ≡ spelled_as symbol_bytes long_symbols (a ∷ b ∷ []))
    → ends_at (symbol s) (slice_index u 0) ≡ true → IsSymbol s (length (symbol_bytes s)) (a ∷ u)
short_at a s [] e n f = short_is a [] s (no_long_alone a) e
short_at a s (b ∷ u) e n f = short_is a (b ∷ u) s (no_long a b u (n b f)) e

dot_alone : (b : ℕ) → not (b == 46) ≡ true → None ≡ spelled_as symbol_bytes long_symbols (46 ∷ b ∷ [])
dot_alone b f = sym (ap (λ t. let o : Option Sym = if t && true then Some syms.DotDot else None in o) (not_true (b == 46) f))

less_alone : (b : ℕ) → not (b == 61) ≡ true → None ≡ spelled_as symbol_bytes long_symbols (60 ∷ b ∷ [])
less_alone b f = sym (ap (λ t. let o : Option Sym = if t && true then Some syms.LessEqual else None in o) (not_true (b == 61) f))

greater_alone : (b : ℕ) → not (b == 61) ≡ true → None ≡ spelled_as symbol_bytes long_symbols (62 ∷ b ∷ [])
greater_alone b f = sym (ap (λ t. let o : Option Sym = if t && true then Some syms.GreaterEqual else None in o) (not_true (b == 61) f))

symbol_at : (s : Sym) (u : List ℕ) → ends_at (symbol s) (slice_index u 0) ≡ true → IsSymbol s (length (symbol_bytes s)) (symbol_bytes s ++ u)
symbol_at syms.DotDot u f = long_is 46 46 u syms.DotDot refl
symbol_at syms.Dot u f = short_at 46 syms.Dot u refl dot_alone f
symbol_at syms.Comma u f = short_at 44 syms.Comma u refl (λ b g. refl) f
symbol_at syms.Colon u f = short_at 58 syms.Colon u refl (λ b g. refl) f
symbol_at syms.Semicolon u f = short_at 59 syms.Semicolon u refl (λ b g. refl) f
symbol_at syms.ParenOpen u f = short_at 40 syms.ParenOpen u refl (λ b g. refl) f
symbol_at syms.ParenClose u f = short_at 41 syms.ParenClose u refl (λ b g. refl) f
symbol_at syms.BracketOpen u f = short_at 91 syms.BracketOpen u refl (λ b g. refl) f
symbol_at syms.BracketClose u f = short_at 93 syms.BracketClose u refl (λ b g. refl) f
symbol_at syms.Plus u f = short_at 43 syms.Plus u refl (λ b g. refl) f
symbol_at syms.Minus u f = short_at 45 syms.Minus u refl (λ b g. refl) f
symbol_at syms.Star u f = short_at 42 syms.Star u refl (λ b g. refl) f
symbol_at syms.Slash u f = short_at 47 syms.Slash u refl (λ b g. refl) f
symbol_at syms.LessEqual u f = long_is 60 61 u syms.LessEqual refl
symbol_at syms.Less u f = short_at 60 syms.Less u refl less_alone f
symbol_at syms.GreaterEqual u f = long_is 62 61 u syms.GreaterEqual refl
symbol_at syms.Greater u f = short_at 62 syms.Greater u refl greater_alone f
symbol_at syms.Equal u f = short_at 61 syms.Equal u refl (λ b g. refl) f
symbol_at syms.NotEqual u f = long_is 33 61 u syms.NotEqual refl
symbol_at syms.At u f = short_at 64 syms.At u refl (λ b g. refl) f
symbol_at syms.Dollar u f = short_at 36 syms.Dollar u refl (λ b g. refl) f

-- ---- all lexemes

-- the token stands at the front
pub token_at : (p : Written) (u : List ℕ) → IsWritten p → ends_at p (slice_index u 0) ≡ true → IsToken (kind_of p) (length (spelling p)) (spelling p ++ u)
token_at (name bytes) u h f = name_at bytes u h (not_true (is_word_byte (slice_index u 0)) f)
token_at (number n) u h f = number_at n u h (not_true (is_word_byte (slice_index u 0)) f)
token_at (word w) u h f = word_at w u (not_true (is_word_byte (slice_index u 0)) f)
token_at (symbol s) u h f = symbol_at s u f
token_at sign u h f = symbol_at syms.Minus u f

-- each ends where a space, the end of a line or the end of the text stands
abbrev pub EndsAll : ℕ → Type 0
EndsAll b = (p : Written) → ends_at p b ≡ true

pub space_ends : EndsAll 32
space_ends (name bytes) = refl
space_ends (number n) = refl
space_ends (word w) = refl
space_ends (symbol syms.Dot) = refl
space_ends (symbol syms.Less) = refl
space_ends (symbol syms.Greater) = refl
space_ends (symbol _) = refl
space_ends sign = refl

pub line_ends : EndsAll 10
line_ends (name bytes) = refl
line_ends (number n) = refl
line_ends (word w) = refl
line_ends (symbol syms.Dot) = refl
line_ends (symbol syms.Less) = refl
line_ends (symbol syms.Greater) = refl
line_ends (symbol _) = refl
line_ends sign = refl

pub nothing_ends : EndsAll 0
nothing_ends (name bytes) = refl
nothing_ends (number n) = refl
nothing_ends (word w) = refl
nothing_ends (symbol syms.Dot) = refl
nothing_ends (symbol syms.Less) = refl
nothing_ends (symbol syms.Greater) = refl
nothing_ends (symbol _) = refl
nothing_ends sign = refl

-- ---- neighbors that stand close

-- what stands close to what is before it begins with no word byte and no '='
record IsMark (q : Written) (u : List ℕ) : Type 0 where
  pub no_word : not (is_word_byte (slice_index (spelling q ++ u) 0)) ≡ true
  pub no_equal : not (slice_index (spelling q ++ u) 0 == 61) ≡ true

closing : (q : Written) (u : List ℕ) → closes q ≡ true → IsMark q u
closing (symbol syms.DotDot) u h = record { no_word = refl; no_equal = refl }
closing (symbol syms.Dot) u h = record { no_word = refl; no_equal = refl }
closing (symbol syms.Comma) u h = record { no_word = refl; no_equal = refl }
closing (symbol syms.ParenClose) u h = record { no_word = refl; no_equal = refl }
closing _ u h = absurd cc

opening : (q : Written) (u : List ℕ) → is_open q ≡ true → IsMark q u
opening (symbol syms.ParenOpen) u h = record { no_word = refl; no_equal = refl }
opening _ u h = absurd cc

mark_of : (t : Bool) (q : Written) (u : List ℕ) → (closes q || (t && is_open q)) ≡ true → IsMark q u
mark_of t q u h = elim (or_cases (closes q) (t && is_open q) h) [
  | inl e ↦ closing q u e
  | inr e ↦ opening q u (and_parts t (is_open q) e).1
]

letter_no_dot : (c : ℕ) → is_letter c ≡ true → not (c == 46) ≡ true
letter_no_dot c h = elim (cases_Bool (c == 46)) [
  | inl e ↦ absurd (let z : is_letter 46 ≡ true = subst (λ (b : ℕ). is_letter b ≡ true) (eqb-true c 46 e) h in cc)
  | inr e ↦ ap not e
]

behind_dot : (q : Written) (u : List ℕ) → IsWritten q → is_name q ≡ true → not (slice_index (spelling q ++ u) 0 == 46) ≡ true
behind_dot (name []) u i h = absurd (let z : false ≡ true = i.form.begins in cc)
behind_dot (name (c ∷ bytes)) u i h = letter_no_dot c i.form.begins
behind_dot (number n) u i h = absurd cc
behind_dot (word w) u i h = absurd cc
behind_dot (symbol s) u i h = absurd cc
behind_dot sign u i h = absurd cc

-- a token ends where another one stands close to it
pub close_ends : (p q : Written) (u : List ℕ) → IsWritten q → close p q ≡ true → ends_at p (slice_index (spelling q ++ u) 0) ≡ true
close_ends (name bytes) q u i h = (mark_of true q u h).no_word
close_ends (number n) q u i h = (mark_of false q u h).no_word
close_ends (word w) q u i h = (mark_of (is_called (word w)) q u h).no_word
close_ends (symbol syms.Dot) q u i h = behind_dot q u i h
close_ends (symbol syms.Less) q u i h = (mark_of false q u h).no_equal
close_ends (symbol syms.Greater) q u i h = (mark_of false q u h).no_equal
close_ends (symbol _) q u i h = refl
close_ends sign q u i h = refl
