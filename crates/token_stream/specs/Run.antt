-- The run of bytes at the end of a text that comes byte by byte: what it is made of, and which bytes it does not go on into.
use Rattle.std.specs.Prelude.{◌≡◌, ℕ, ◌<◌, List, [], ◌∷◌, ◌++◌, length, slice_index, Bool, true, false, ◌==◌, ◌⊎◌}
use Rattle.std.specs.List.{prefix_len}
use Rattle.geo_tokens.specs.declared.token.Sym.{Sym}
use Rattle.geo_tokens.specs.declared.fault.FaultWord.TheVariants as words
use Rattle.geo_tokens.specs.Class.{symbol_bytes}
use Rattle.geo_tokens.specs.Bytes.{is_white, is_digit, is_letter, is_word_byte, is_line_byte, value_of}
use Rattle.geo_tokens.specs.Cut.{Fits, IsBad}
use Rattle.token_stream.specs.declared.run.Run.{Run}
use Rattle.token_stream.specs.declared.run.Run.TheVariants as runs

-- one byte of the first sort, and then bytes of the second, to the end
pub record IsMadeOf (first others : ℕ → Bool) (rest : List ℕ) : Type 0 where
  pub begins : first (slice_index rest 0) ≡ true
  pub whole : prefix_len others rest ≡ length rest

abbrev pub is_hash : ℕ → Bool
is_hash b = b == 35

abbrev pub IsComment : List ℕ → Type 0
IsComment = IsMadeOf is_hash is_line_byte

abbrev pub IsWord : List ℕ → Type 0
IsWord = IsMadeOf is_letter is_word_byte

abbrev pub IsDigits : List ℕ → Type 0
IsDigits = IsMadeOf is_digit is_digit

-- this number, or another one where both are too large
abbrev pub IsValue : ℕ → ℕ → Type 0
IsValue v x = (v ≡ x) ⊎ ((1000000000 < v) × (1000000000 < x))

-- a byte that begins a symbol: it is one, or it is `!`
abbrev pub IsMark : ℕ → Type 0
IsMark b = (b ≡ 33) ⊎ ((s : Sym) × (b ∷ [] ≡ symbol_bytes s))

-- the bytes that came of a run
abbrev pub IsRun : Run → List ℕ → Type 0
IsRun runs.Space rest = (rest ≡ []) ⊎ ((b : ℕ) × (rest ≡ b ∷ []) × (is_white b ≡ true))
IsRun runs.Comment rest = IsComment rest
IsRun runs.Word rest = IsWord rest
IsRun (runs.Digits v) rest = IsDigits rest × IsValue v (value_of rest)
IsRun (runs.Mark b) rest = (rest ≡ b ∷ []) × IsMark b
IsRun (runs.Pair s) rest = (rest ≡ symbol_bytes s) × (length rest ≡ 2)

-- no symbol of two bytes stands here
abbrev pub NoPair : List ℕ → Type 0
NoPair bytes = (s : Sym) → length (symbol_bytes s) ≡ 2 → Fits s bytes → ⊥

-- the run does not go on into these bytes
abbrev pub IsOver : Run → List ℕ → Type 0
IsOver runs.Space more = Unit {0}
IsOver runs.Comment more = prefix_len is_line_byte more ≡ 0
IsOver runs.Word more = prefix_len is_word_byte more ≡ 0
IsOver (runs.Digits v) more = prefix_len is_digit more ≡ 0
IsOver (runs.Mark b) more = NoPair (b ∷ more)
IsOver (runs.Pair s) more = Unit {0}

abbrev pub is_word : Run → Bool
is_word runs.Word = true
is_word _ = false

-- it does not go on with this byte, whatever comes behind that
abbrev pub EndsAt : Run → ℕ → Type 0
EndsAt run byte = (more : List ℕ) → IsOver run (byte ∷ more)

-- with this byte the run becomes the other
pub record GoesOn (run other : Run) (byte : ℕ) : Type 0 where
  pub bytes : (rest : List ℕ) → IsRun run rest → IsRun other (rest ++ byte ∷ [])
  pub same : is_word other ≡ is_word run

-- whatever comes behind the byte, it begins no token
abbrev pub BeginsNone : ℕ → Type 0
BeginsNone b = (more : List ℕ) → IsBad words.Byte (b ∷ more)
