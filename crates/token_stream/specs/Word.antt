-- The bytes of a word that are kept: how many there are, and the first forty of them.
use Rattle.std.specs.Prelude.{◌≡◌, ℕ, List, length, take}
use Rattle.token_stream.specs.declared.word.Word.{Word}

-- the bytes that are kept
abbrev pub kept_bytes : Word → List ℕ
kept_bytes word = take word.len word.bytes

-- these are the bytes that came of the word
pub record IsWordOf (word : Word) (rest : List ℕ) : Type 0 where
  pub count : word.len ≡ length rest
  pub kept : kept_bytes word ≡ take 40 rest
