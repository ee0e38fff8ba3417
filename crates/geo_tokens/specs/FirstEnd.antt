-- Where the first word `end` of an input ends. A word here is a run of letters, digits and _ as long as possible, outside
-- comments.
use Rattle.std.specs.Prelude.{◌≡◌, ℕ, ◌+◌, ◌<◌, List, [], length, take, drop, slice_index, codes, true, false, Option, Some, None}
use Rattle.std.specs.List.{prefix_len}
use Rattle.geo_tokens.specs.Bytes.{is_word_byte, is_line_byte}

-- the word at the front, which is no bytes where no word stands there
abbrev pub first_word : List ℕ → List ℕ
first_word bytes = take (prefix_len is_word_byte bytes) bytes

-- What is passed over, n bytes: a # with the rest of its line, a word other than `end`, or any other byte.
pub data IsPassed (n : ℕ) (bytes : List ℕ) : Type 0 where
  comment : slice_index bytes 0 ≡ 35 → n ≡ prefix_len is_line_byte bytes → IsPassed n bytes
  other_word : is_word_byte (slice_index bytes 0) ≡ true → n ≡ prefix_len is_word_byte bytes → (first_word bytes ≡ codes "end" → ⊥) → IsPassed n bytes
  other_byte : 0 < length bytes → (slice_index bytes 0 ≡ 35 → ⊥) → is_word_byte (slice_index bytes 0) ≡ false → n ≡ 1 → IsPassed n bytes

-- From the bytes at `place` to the bytes `rest` at `last` all is passed over.
pub data Passes (last : ℕ) (rest : List ℕ) : ℕ → List ℕ → Type 0 where
  here : (place : ℕ) (bytes : List ℕ) → place ≡ last → bytes ≡ rest → Passes last rest place bytes
  behind : (place : ℕ) (bytes : List ℕ) (n : ℕ) → IsPassed n bytes → Passes last rest (place + n) (drop n bytes) → Passes last rest place bytes

-- the text has no word `end`
abbrev pub HasNoEnd : List ℕ → Type 0
HasNoEnd text = Passes (length text) [] 0 text

-- the first word `end` of the text ends here
pub record IsFirstEnd (text : List ℕ) (end : ℕ) : Type 0 where
  pub place : ℕ
  pub rest : List ℕ
  pub before : Passes place rest 0 text
  pub word : first_word rest ≡ codes "end"
  pub behind_word : end ≡ place + 3

-- no other answer fits the text
abbrev pub IsOnlyEnd : Option ℕ → List ℕ → Type 0
IsOnlyEnd None text = (e : ℕ) → IsFirstEnd text e → ⊥
IsOnlyEnd (Some end) text = (HasNoEnd text → ⊥) × ((e : ℕ) → IsFirstEnd text e → e ≡ end)
