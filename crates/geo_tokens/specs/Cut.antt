-- A text cut into tokens, with white space and comments between them; and the first place where it cannot be cut on.
use Rattle.std.specs.Prelude.{◌≡◌, ℕ, ◌+◌, ◌-◌, ◌<◌, ◌≤◌, List, [], ◌∷◌, length, take, drop, slice_index, true, false, ◌⊎◌, Result, Ok, Err, Vec}
use Rattle.std.specs.List.{prefix_len}
use Rattle.std.specs.declared.alloc.Global.{Global}
use Rattle.geo_tokens.specs.declared.token.Token.{Token}
use Rattle.geo_tokens.specs.declared.token.Keyword.{Keyword}
use Rattle.geo_tokens.specs.declared.token.Sym.{Sym}
use Rattle.geo_tokens.specs.declared.token.Kind.{Kind}
use Rattle.geo_tokens.specs.declared.token.Kind.TheVariants as kinds
use Rattle.geo_tokens.specs.declared.fault.FaultWord.{FaultWord}
use Rattle.geo_tokens.specs.declared.fault.FaultWord.TheVariants as words
use Rattle.geo_tokens.specs.declared.fault.TextFault.{TextFault}
use Rattle.geo_tokens.specs.declared.fault.TextFault.TheVariants as faults
use Rattle.geo_tokens.specs.Class.{word_bytes, symbol_bytes}
use Rattle.geo_tokens.specs.Bytes.{is_white, is_digit, is_letter, is_word_byte, is_line_byte, value_of}

-- ---- what stands at the front of some bytes

-- A gap of n bytes: one byte of white space, or a # with the rest of its line.
pub data IsGap (n : ℕ) (bytes : List ℕ) : Type 0 where
  white : is_white (slice_index bytes 0) ≡ true → n ≡ 1 → IsGap n bytes
  comment : slice_index bytes 0 ≡ 35 → n ≡ prefix_len is_line_byte bytes → IsGap n bytes

-- A letter, and word bytes behind it as far as they go: n bytes, at most 40.
pub record IsWordForm (n : ℕ) (bytes : List ℕ) : Type 0 where
  pub begins : is_letter (slice_index bytes 0) ≡ true
  pub longest : n ≡ prefix_len is_word_byte bytes
  pub short : n ≤ 40

-- a name is a word that is not reserved
pub record IsName (n : ℕ) (bytes : List ℕ) : Type 0 where
  pub form : IsWordForm n bytes
  pub free : (w : Keyword) → take n bytes ≡ word_bytes w → ⊥

pub record IsReserved (w : Keyword) (n : ℕ) (bytes : List ℕ) : Type 0 where
  pub form : IsWordForm n bytes
  pub spelled : take n bytes ≡ word_bytes w

-- Digits as far as they go, of a value of at most 1,000,000,000, and no letter behind them.
pub record IsNumber (v n : ℕ) (bytes : List ℕ) : Type 0 where
  pub begins : is_digit (slice_index bytes 0) ≡ true
  pub longest : n ≡ prefix_len is_digit bytes
  pub value : v ≡ value_of (take n bytes)
  pub small : v ≤ 1000000000
  pub ends : is_letter (slice_index bytes n) ≡ false

-- the bytes begin as this symbol is spelled
abbrev pub Fits : Sym → List ℕ → Type 0
Fits s bytes = take (length (symbol_bytes s)) bytes ≡ symbol_bytes s

-- the longest symbol that fits
pub record IsSymbol (s : Sym) (n : ℕ) (bytes : List ℕ) : Type 0 where
  pub size : n ≡ length (symbol_bytes s)
  pub fits : Fits s bytes
  pub longest : (t : Sym) → Fits t bytes → length (symbol_bytes t) ≤ n

-- a token of this kind and of n bytes
abbrev pub IsToken : Kind → ℕ → List ℕ → Type 0
IsToken kinds.Name n bytes = IsName n bytes
IsToken (kinds.Word w) n bytes = IsReserved w n bytes
IsToken (kinds.Number v) n bytes = IsNumber v n bytes
IsToken (kinds.Symbol s) n bytes = IsSymbol s n bytes

-- a byte that begins no gap and no token
pub record IsStrange (bytes : List ℕ) : Type 0 where
  pub some : 0 < length bytes
  pub no_white : is_white (slice_index bytes 0) ≡ false
  pub no_comment : slice_index bytes 0 ≡ 35 → ⊥
  pub no_letter : is_letter (slice_index bytes 0) ≡ false
  pub no_digit : is_digit (slice_index bytes 0) ≡ false
  pub no_symbol : (s : Sym) → Fits s bytes → ⊥

-- digits of too large a value, or with a letter behind them
pub record IsWrongNumber (bytes : List ℕ) : Type 0 where
  pub begins : is_digit (slice_index bytes 0) ≡ true
  pub wrong : (1000000000 < value_of (take (prefix_len is_digit bytes) bytes)) ⊎ (is_letter (slice_index bytes (prefix_len is_digit bytes)) ≡ true)

-- a word of more than 40 bytes
pub record IsLongWord (bytes : List ℕ) : Type 0 where
  pub begins : is_letter (slice_index bytes 0) ≡ true
  pub long : 40 < prefix_len is_word_byte bytes

-- what stands at the front is no gap and no token, for this reason
abbrev pub IsBad : FaultWord → List ℕ → Type 0
IsBad words.Byte bytes = IsStrange bytes
IsBad words.Number bytes = IsWrongNumber bytes
IsBad words.Name bytes = IsLongWord bytes
IsBad _ bytes = ⊥

-- ---- a text

-- The bytes from `place` on begin with these tokens and with gaps, and behind them the bytes `rest` stand, at `end`.
pub data Cut (end : ℕ) (rest : List ℕ) : ℕ → List ℕ → List Token → Type 0 where
  here : (place : ℕ) (bytes : List ℕ) (ts : List Token) → place ≡ end → bytes ≡ rest → ts ≡ [] → Cut end rest place bytes ts
  behind_gap : (place : ℕ) (bytes : List ℕ) (ts : List Token) (n : ℕ) → IsGap n bytes → Cut end rest (place + n) (drop n bytes) ts → Cut end rest place bytes ts
  behind_token : (place : ℕ) (bytes : List ℕ) (ts : List Token) (kind : Kind) (n : ℕ) (others : List Token) → IsToken kind n bytes
      → ts ≡ (record { kind = kind; start = place; end = place + n }) ∷ others → Cut end rest (place + n) (drop n bytes) others → Cut end rest place bytes ts

-- the text is cut into these tokens, to its end
abbrev pub IsTokens : List ℕ → List Token → Type 0
IsTokens text ts = Cut (length text) [] 0 text ts

-- The first token fault: the text up to this place is cut into tokens, and what stands there is no gap and no token.
pub record IsTokenFault (text : List ℕ) (place : ℕ) (word : FaultWord) : Type 0 where
  pub tokens : List Token
  pub rest : List ℕ
  pub before : Cut place rest 0 text tokens
  pub bad : IsBad word rest

-- what a function returned is the tokens of the text, or its first token fault, unless memory ran out
abbrev pub Tokenizes : Result (Vec Token Global) TextFault → List ℕ → Type 0
Tokenizes (Ok ts) text = IsTokens text ts.items
Tokenizes (Err (faults.At place word)) text = IsTokenFault text place word
Tokenizes (Err faults.Memory) text = Unit {0}

-- no other tokens and no other fault fit the text
abbrev pub IsOnlyAnswer : Result (Vec Token Global) TextFault → List ℕ → Type 0
IsOnlyAnswer (Ok ts) text = ((us : List Token) → IsTokens text us → us ≡ ts.items) × ((p : ℕ) (w : FaultWord) → IsTokenFault text p w → ⊥)
IsOnlyAnswer (Err (faults.At place word)) text = ((us : List Token) → IsTokens text us → ⊥) × ((p : ℕ) (w : FaultWord) → IsTokenFault text p w → (p ≡ place) × (w ≡ word))
IsOnlyAnswer (Err faults.Memory) text = Unit {0}

-- Tokens in order from `place` on and inside the text: each begins behind the one before, has a byte at least, and is what
-- stands at its place.
abbrev pub InOrder : List ℕ → ℕ → List Token → Type 0
InOrder text place [] = place ≤ length text
InOrder text place (t ∷ ts) = (place ≤ t.start) × (t.start < t.end) × IsToken t.kind (t.end - t.start) (drop t.start text) × InOrder text t.end ts
