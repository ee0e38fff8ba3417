-- A text that comes byte by byte, and the tokens of it that are whole. A token is whole once a byte stands behind it that does
-- not go on with it, or the text has ended.
use Rattle.std.specs.Prelude.{◌≡◌, ℕ, ◌+◌, ◌⊎◌, List, [], ◌∷◌, ◌++◌, ◌<◌, length, slice_index, true}
use Rattle.std.specs.List.{prefix_len}
use Rattle.geo_tokens.specs.declared.token.Token.{Token}
use Rattle.geo_tokens.specs.declared.token.Kind.{Kind}
use Rattle.geo_tokens.specs.declared.token.Kind.TheVariants as kinds
use Rattle.geo_tokens.specs.declared.fault.FaultWord.{FaultWord}
use Rattle.geo_tokens.specs.declared.fault.FaultWord.TheVariants as words
use Rattle.geo_tokens.specs.Bytes.{is_white, is_digit, is_word_byte, bytes_of}
use Rattle.geo_tokens.specs.Cut.{Cut, IsToken, IsBad, IsTokens}
use Rattle.token_stream.specs.declared.stream.TokenStream.{TokenStream}
use Rattle.token_stream.specs.declared.stream.Taken.{Taken}
use Rattle.token_stream.specs.declared.stream.Taken.TheVariants as takes
use Rattle.token_stream.specs.declared.run.Run.TheVariants as runs
use Rattle.token_stream.specs.Run.{IsRun, is_word}
use Rattle.token_stream.specs.Word.{kept_bytes, IsWordOf}

-- Whatever comes behind the text, it is cut into these tokens up to the place `end`, and behind them stands `rest`.
abbrev pub Stands : List ℕ → List Token → ℕ → List ℕ → Type 0
Stands text ts end rest = (more : List ℕ) → Cut end (rest ++ more) 0 (text ++ more) ts

-- how many bytes the run with a token fault has
abbrev pub run_length : FaultWord → List ℕ → ℕ
run_length words.Number bytes = prefix_len is_digit bytes
run_length words.Name bytes = prefix_len is_word_byte bytes
run_length _ bytes = 1

-- Whatever comes behind the text, behind these tokens stands this fault, whose run ends at `last`.
pub record IsStuck (text : List ℕ) (ts : List Token) (place : ℕ) (word : FaultWord) (last : ℕ) : Type 0 where
  pub rest : List ℕ
  pub stands : Stands text ts place rest
  pub bad : (more : List ℕ) → IsBad word (rest ++ more)
  pub run : (more : List ℕ) → place + run_length word (rest ++ more) ≡ last

-- The run at the end is made of these bytes.
pub record HasRun (stream : TokenStream) (rest : List ℕ) : Type 0 where
  pub run : IsRun stream.run rest
  pub word : is_word stream.run ≡ true → IsWordOf stream.word rest
  pub place : stream.start + length rest ≡ stream.count

-- The stream has come to the end of this text, whose whole tokens these are.
pub record Has (stream : TokenStream) (text : List ℕ) (ts : List Token) : Type 0 where
  pub rest : List ℕ
  pub run : HasRun stream rest
  pub stands : Stands text ts stream.start rest
  pub count : stream.count ≡ length text

-- At the front of a piece stands a token of n bytes, with white space on both sides of it.
pub record IsWhole (stream : TokenStream) (kind : Kind) (n : ℕ) (piece : List ℕ) : Type 0 where
  pub space : stream.run ≡ runs.Space
  pub token : IsToken kind n piece
  pub inside : n < length piece
  pub white : is_white (slice_index piece n) ≡ true

abbrev pub token_at : Kind → ℕ → ℕ → Token
token_at kind start end = record { kind = kind; start = start; end = end }

-- the bytes of the name that was whole last
abbrev pub name_of : TokenStream → List ℕ
name_of stream = kept_bytes stream.word

-- they are those of this token, where it is a name
abbrev pub HasName : TokenStream → List ℕ → Token → Type 0
HasName stream text t = t.kind ≡ kinds.Name → name_of stream ≡ bytes_of text t

-- The last byte of the text completed a fault: it is the one that begins no token, or stands behind the run.
pub record IsFault (text : List ℕ) (ts : List Token) (place : ℕ) (word : FaultWord) : Type 0 where
  pub last : ℕ
  pub stuck : IsStuck text ts place word last
  pub now : ((place + 1 ≡ length text) × (word ≡ words.Byte)) ⊎ (last + 1 ≡ length text)

-- What the last byte of the text completed, where these tokens were whole before it.
abbrev pub Takes : TokenStream → Taken → List ℕ → List Token → Type 0
Takes stream takes.Nothing text ts = Has stream text ts
Takes stream (takes.Token t) text ts = Has stream text (ts ++ t ∷ []) × (t.end + 1 ≡ length text) × HasName stream text t
Takes stream (takes.Fault place word) text ts = IsFault text ts place word
Takes stream (takes.TokenAndFault t place) text ts =
    IsStuck text (ts ++ t ∷ []) place words.Byte (length text) × (t.end + 1 ≡ length text) × (place ≡ t.end) × HasName stream text t

-- The end of the text completed this fault.
pub record IsLastFault (text : List ℕ) (ts : List Token) (place : ℕ) (word : FaultWord) : Type 0 where
  pub rest : List ℕ
  pub before : Cut place rest 0 text ts
  pub bad : IsBad word rest
  pub run : place + run_length word rest ≡ length text

-- What the end of the text completed, where these tokens were whole before it.
abbrev pub Finishes : TokenStream → Taken → List ℕ → List Token → Type 0
Finishes stream takes.Nothing text ts = IsTokens text ts
Finishes stream (takes.Token t) text ts = IsTokens text (ts ++ t ∷ []) × (t.end ≡ length text) × HasName stream text t
Finishes stream (takes.Fault place word) text ts = IsLastFault text ts place word
Finishes stream (takes.TokenAndFault t place) text ts = ⊥
