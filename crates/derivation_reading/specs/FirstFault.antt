-- Which texts are derivations over a table of names, with which events, and what the first fault of another text is. A text is read
-- from the left up to the word `qed`, and what stands behind that is not looked at. Its faults are one phase: the one at the least place
-- decides. At one place a token fault goes before `syntax`, and that before `unknown`.
use Rattle.std.specs.Prelude.{◌≡◌, ◌+◌, ◌≤◌, ◌<◌, ◌^◌, ℕ, List, [], ◌∷◌, ◌++◌, length, Result, Ok, Err}
use Rattle.geo_tokens.specs.declared.token.Token.{Token}
use Rattle.geo_tokens.specs.declared.token.Kind.{Kind}
use Rattle.geo_tokens.specs.declared.fault.FaultWord.{FaultWord}
use Rattle.geo_tokens.specs.declared.fault.FaultWord.TheVariants as words
use Rattle.geo_tokens.specs.declared.fault.TextFault.{TextFault}
use Rattle.geo_tokens.specs.declared.fault.TextFault.TheVariants as faults
use Rattle.geo_tokens.specs.Names.{NameTable}
use Rattle.geo_tokens.specs.Cut.{Cut, IsToken, IsBad}
use Rattle.token_stream.specs.Stream.{run_length}
use Rattle.derivation.specs.declared.event.Event.{Event}
use Rattle.derivation.specs.Events.{Kept}
use Rattle.derivation_reading.specs.declared.symbol.Symbol.{Symbol}
use Rattle.derivation_reading.specs.Terminals.{lexeme, lexemes}
use Rattle.derivation_reading.specs.Grammar.{lookup, at, Unknown}
use Rattle.derivation_reading.specs.Machine.{Opens, Spells}
use Rattle.derivation_reading.specs.Language.{IsTextOf}
use Rattle.derivation_reading.specs.Begins.{Begins}

-- how many bytes a text may have up to its word `qed`
abbrev pub most_bytes : ℕ
most_bytes = 2 ^ 40

-- the text is a derivation over the names, and has these events
pub record IsText (n : NameTable) (text : List ℕ) (es : List Event) : Type 0 where
  pub tokens : List Token
  pub end : ℕ
  pub rest : List ℕ
  pub cut : Cut end rest 0 text tokens
  pub short : end ≤ most_bytes
  pub spells : Spells (lookup n) (lexemes text tokens) es

-- the same by the grammar: its tokens up to `qed` are a text of a tree, which has these events
pub record IsOfGrammar (n : NameTable) (text : List ℕ) (es : List Event) : Type 0 where
  pub tokens : List Token
  pub end : ℕ
  pub rest : List ℕ
  pub cut : Cut end rest 0 text tokens
  pub short : end ≤ most_bytes
  pub tree : IsTextOf (lookup n) (lexemes text tokens) es

-- The text is cut into these tokens up to a place, they begin a derivation over the names, and behind them may come this symbol.
pub record IsRead (n : NameTable) (text : List ℕ) (place : ℕ) (rest : List ℕ) (tokens : List Token) (s : Symbol) : Type 0 where
  pub others : List Symbol
  pub events : List Event
  pub cut : Cut place rest 0 text tokens
  pub opens : Opens (lookup n) (lexemes text tokens) (s ∷ others) events

-- a token at the place, of these bytes
abbrev pub token_at : Kind → ℕ → ℕ → Token
token_at kind place size = record { kind = kind; start = place; end = place + size }

-- There is a fault of the text that ends within `most_bytes`.
pub data HasFault (n : NameTable) (text : List ℕ) (place : ℕ) (word : FaultWord) : Type 0 where
  -- no token stands there
  no_token : (rest : List ℕ) (ts : List Token) (s : Symbol) → IsRead n text place rest ts s → IsBad word rest
      → place + run_length word rest ≤ most_bytes → HasFault n text place word
  -- a token with which the tokens before it go on in no text of the grammar
  syntax : (rest : List ℕ) (ts : List Token) (s : Symbol) → IsRead n text place rest ts s → (kind : Kind) (size : ℕ) → IsToken kind size rest
      → place + size ≤ most_bytes → Begins (lexemes text ts) → (Begins (lexemes text (ts ++ token_at kind place size ∷ [])) → ⊥)
      → word ≡ words.Syntax → HasFault n text place word
  -- a name or a dimension that stands for nothing
  unknown : (rest : List ℕ) (ts : List Token) (s : Symbol) → IsRead n text place rest ts s → (kind : Kind) (size : ℕ) → IsToken kind size rest
      → place + size ≤ most_bytes → Begins (lexemes text (ts ++ token_at kind place size ∷ []))
      → at (lookup n) s (lexeme text (token_at kind place size)) ≡ Unknown → word ≡ words.Unknown → HasFault n text place word
  -- the end of the text
  ended : (ts : List Token) (s : Symbol) → IsRead n text place [] ts s → place < most_bytes → Begins (lexemes text ts) → word ≡ words.Syntax
      → HasFault n text place word

-- The text is long: its first `most_bytes` bytes hold neither a derivation nor a fault.
pub record IsLong (n : NameTable) (text : List ℕ) : Type 0 where
  pub long : most_bytes ≤ length text
  pub no_text : (es : List Event) → IsText n text es → ⊥
  pub no_fault : (place : ℕ) (word : FaultWord) → HasFault n text place word → ⊥

-- the first fault of the text
pub data HasFirstFault (n : NameTable) (text : List ℕ) (place : ℕ) (word : FaultWord) : Type 0 where
  inside : HasFault n text place word → HasFirstFault n text place word
  long : IsLong n text → place ≡ most_bytes → word ≡ words.Long → HasFirstFault n text place word

-- the first fault of the text, which begins at the place `from` of the input
abbrev pub HasFaultFrom : NameTable → ℕ → List ℕ → TextFault → Type 0
HasFaultFrom n from text (faults.At place word) = (within : ℕ) × (place ≡ from + within) × HasFirstFault n text within word
HasFaultFrom n from text faults.Memory = Unit {0}

-- a call's answer: the events of the text, or its first fault, unless memory ran out
abbrev pub AnswersDerivation : Result Kept TextFault → NameTable → ℕ → List ℕ → Type 0
AnswersDerivation (Ok log) n from text = IsText n text log.events
AnswersDerivation (Err fault) n from text = HasFaultFrom n from text fault

-- nothing else is true of the text
abbrev pub IsOnlyDerivation : Result Kept TextFault → NameTable → ℕ → List ℕ → Type 0
IsOnlyDerivation (Ok log) n from text = ((es : List Event) → IsText n text es → es ≡ log.events) × ((place : ℕ) (word : FaultWord) → HasFaultFrom n from text (faults.At place word) → ⊥)
IsOnlyDerivation (Err (faults.At place word)) n from text =
    ((es : List Event) → IsText n text es → ⊥) × ((q : ℕ) (w : FaultWord) → HasFaultFrom n from text (faults.At q w) → (q ≡ place) × (w ≡ word))
IsOnlyDerivation (Err faults.Memory) n from text = Unit {0}
