-- How far the reading of a text in pieces has come.
use Rattle.std.specs.Prelude.{◌≡◌, ◌+◌, ◌-◌, ◌≤◌, ◌^◌, ◌⊎◌, min, ℕ, List, [], ◌∷◌, ◌++◌, All, Bool, true, false, length, reverse, Result, Ok, Err, nat_le, if◌then◌else◌}
use Rattle.geo_tokens.specs.declared.token.Token.{Token}
use Rattle.geo_tokens.specs.declared.fault.FaultWord.{FaultWord}
use Rattle.geo_tokens.specs.declared.fault.FaultWord.TheVariants as words
use Rattle.geo_tokens.specs.declared.fault.TextFault.{TextFault}
use Rattle.geo_tokens.specs.declared.fault.TextFault.TheVariants as faults
use Rattle.geo_tokens.specs.Names.{NameTable}
use Rattle.geo_tokens.specs.declared.token.Kind.TheVariants as kinds
use Rattle.geo_tokens.specs.Bytes.{bytes_of}
use Rattle.geo_tokens.specs.Cut.{Cut, IsBad}
use Rattle.token_stream.specs.declared.stream.Taken.{Taken}
use Rattle.token_stream.specs.declared.stream.Taken.TheVariants as takes
use Rattle.token_stream.specs.Stream.{Has, name_of, run_length}
use Rattle.derivation.specs.declared.event.Event.{Event}
use Rattle.derivation.specs.Fits.{EventFits}
use Rattle.derivation.specs.Nodes.{Node, node_events}
use Rattle.derivation_reading.specs.declared.symbol.Symbol.{Symbol}
use Rattle.derivation_reading.specs.declared.feeder.Progress.{Progress}
use Rattle.derivation_reading.specs.declared.feeder.Progress.TheVariants.{Open, Done, Failed}
use Rattle.derivation_reading.specs.declared.feeder.Feeder.{Feeder}
use Rattle.derivation_reading.specs.Terminals.{lexemes}
use Rattle.derivation_reading.specs.Grammar.{lookup, Next, Wrong, Unknown}
use Rattle.derivation_reading.specs.Grammar as nexts
use Rattle.derivation_reading.specs.Machine.{Opens, Spells}
use Rattle.derivation_reading.specs.FirstFault.{most_bytes, IsText, HasFaultFrom}

-- The text so far, over these names: its whole tokens begin a derivation, behind them this symbol may come, and these events are whole.
pub record IsOpen (n : NameTable) (f : Feeder) (text : List ℕ) (es : List Event) (s : Symbol) : Type 0 where
  pub tokens : List Token
  pub has : Has f.stream text tokens
  pub opens : Opens (lookup n) (lexemes text tokens) (s ∷ reverse f.behind.items) es
  pub short : length text ≤ most_bytes

-- Where this text has come, which begins at the place `from` of the input, the reading is that far. Whatever comes behind `qed` or a
-- fault changes nothing.
abbrev pub IsAt : NameTable → ℕ → Feeder → Progress → List ℕ → List Event → Type 0
IsAt n from f (Open s) text es = IsOpen n f text es s
IsAt n from f Done text es = (more : List ℕ) → IsText n (text ++ more) es
IsAt n from f (Failed fault) text es = (more : List ℕ) → HasFaultFrom n from (text ++ more) fault

-- The text begins with tokens that begin a derivation, and these are their events.
pub record HasEvents (n : NameTable) (text : List ℕ) (es : List Event) : Type 0 where
  pub tokens : List Token
  pub place : ℕ
  pub rest : List ℕ
  pub symbols : List Symbol
  pub cut : Cut place rest 0 text tokens
  pub opens : Opens (lookup n) (lexemes text tokens) symbols es

-- The text so far, over these names and from this place of the input on: how far its reading has come, and its events.
pub record HasCome (n : NameTable) (from : ℕ) (f : Feeder) (text : List ℕ) (es : List Event) : Type 0 where
  pub names : f.names.now ≡ n
  pub place : f.place ≡ from
  pub low : from ≤ 2 ^ 62
  pub far : IsAt n from f f.progress text es
  pub events : (more : List ℕ) → HasEvents n (text ++ more) es

-- and where the text has ended
abbrev pub IsAtEnd : NameTable → ℕ → Progress → List ℕ → List Event → Type 0
IsAtEnd n from (Open s) text es = ⊥
IsAtEnd n from Done text es = IsText n text es
IsAtEnd n from (Failed fault) text es = HasFaultFrom n from text fault

pub record HasEnded (n : NameTable) (from : ℕ) (f : Feeder) (text : List ℕ) (es : List Event) : Type 0 where
  pub far : IsAtEnd n from f.progress text es
  pub events : HasEvents n text es

-- A piece was taken, and the events that are whole with it were recorded.
abbrev pub Comes : Feeder → Feeder → List ℕ → List Event → List Event → Type 0
Comes old new piece before later = (n : NameTable) (from : ℕ) (text : List ℕ) (es : List Event) → HasCome n from old text es
    → (more : List Event) × (later ≡ before ++ more) × HasCome n from new (text ++ piece) (es ++ more)

-- The text has ended, and the events that are whole with its end were recorded.
abbrev pub Ends : Feeder → Feeder → List Event → List Event → Type 0
Ends old new before later = (n : NameTable) (from : ℕ) (text : List ℕ) (es : List Event) → HasCome n from old text es
    → (more : List Event) × (later ≡ before ++ more) × HasEnded n from new text (es ++ more)

-- Where a text was read so far, the events that were recorded with what came name what exists, as those before.
abbrev pub StaysFitting : Feeder → List Event → List Event → Type 0
StaysFitting old before later = (n : NameTable) (from : ℕ) (text : List ℕ) (es : List Event) → HasCome n from old text es
    → All (EventFits (length n.objects) n.dims) before → All (EventFits (length n.objects) n.dims) later

-- Where the record held the events of the text so far, and with what came the word `qed` was read, its events are those of a tree.
abbrev pub EndsTree : Feeder → Result Bool TextFault → List Event → List Event → Type 0
EndsTree old result before later = (n : NameTable) (from : ℕ) (text : List ℕ) → HasCome n from old text before
    → result ≡ Ok true → (root : Node) × (node_events root ≡ later)

-- what is answered
abbrev pub answer_of : Progress → Result Bool TextFault
answer_of (Open s) = Ok false
answer_of Done = Ok true
answer_of (Failed fault) = Err fault

-- nothing was recorded, and the reading has come as far as this, with this answer
pub record Rests (new : Feeder) (p : Progress) (result said : Result Bool TextFault)
    (before later : List Event) : Type 0 where
  pub progress : new.progress ≡ p
  pub answer : result ≡ said
  pub events : later ≡ before

-- A reading that has failed, by a fault of the text or for want of memory, fails so from then on
-- and records nothing; nor does one behind the word `qed`, which goes on answering true.
abbrev pub Stays : Progress → Feeder → Result Bool TextFault → List Event → List Event → Type 0
Stays (Open s) new result before later = Unit {0}
Stays Done new result before later = Rests new Done result (Ok true) before later
Stays (Failed f) new result before later = Rests new (Failed f) result (Err f) before later

-- the same of what was taken, before it is answered
abbrev pub StaysClosed : Progress → Progress → List Event → List Event → Type 0
StaysClosed (Open s) new before later = Unit {0}
StaysClosed Done new before later = (new ≡ Done) × (later ≡ before)
StaysClosed (Failed fault) new before later = (new ≡ Failed fault) × (later ≡ before)

-- ---- what a byte or the end of the text completed

-- The tokens of the text up to here are these, and this is what the reading has come to.
abbrev pub HasReached : Feeder → Progress → List ℕ → List Token → List Event → Type 0
HasReached f (Open s) text ts es = Opens (lookup f.names.now) (lexemes text ts) (s ∷ reverse f.behind.items) es
HasReached f Done text ts es = Spells (lookup f.names.now) (lexemes text ts) es
HasReached f (Failed fault) text ts es = HasFaultFrom f.names.now f.place text fault × HasEvents f.names.now text es

-- the token stands behind those that were read, and its name was kept
pub record IsNext (f : Feeder) (text : List ℕ) (ts : List Token) (t : Token) : Type 0 where
  pub end : ℕ
  pub rest : List ℕ
  pub cut : Cut end rest 0 text (ts ++ t ∷ [])
  pub short : t.end ≤ most_bytes
  pub name : t.kind ≡ kinds.Name → name_of f.stream ≡ bytes_of text t

-- behind those that were read stands a fault of tokens
pub record IsNextFault (text : List ℕ) (ts : List Token) (place : ℕ) (word : FaultWord) : Type 0 where
  pub rest : List ℕ
  pub cut : Cut place rest 0 text ts
  pub bad : IsBad word rest
  pub short : place + run_length word rest ≤ most_bytes

-- what was completed stands in the text behind those tokens
abbrev pub Shows : Feeder → List ℕ → List Token → Taken → Type 0
Shows f text ts takes.Nothing = Unit {0}
Shows f text ts (takes.Token t) = IsNext f text ts t
Shows f text ts (takes.Fault place word) = IsNextFault text ts place word
Shows f text ts (takes.TokenAndFault t place) = IsNext f text ts t × IsNextFault text (ts ++ t ∷ []) place words.Byte

-- the tokens with the one that was completed
abbrev pub with_taken : List Token → Taken → List Token
with_taken ts takes.Nothing = ts
with_taken ts (takes.Token t) = ts ++ t ∷ []
with_taken ts (takes.Fault place word) = ts
with_taken ts (takes.TokenAndFault t place) = ts ++ t ∷ []

-- The same text and the same tokens before: behind what was completed the reading has reached this, with the events that were recorded.
abbrev pub Reaches : Feeder → Feeder → Symbol → Taken → List Event → List Event → Type 0
Reaches old new s taken before later = (text : List ℕ) (ts : List Token) (es more : List Event) → later ≡ before ++ more → old.place ≤ 2 ^ 62
    → Opens (lookup old.names.now) (lexemes text ts) (s ∷ reverse old.behind.items) es → Shows old text ts taken
    → HasReached new new.progress text (with_taken ts taken) (es ++ more)

-- behind a fault of tokens nothing comes
abbrev pub Stops : Taken → Progress → Type 0
Stops (takes.Fault place word) (Open s) = ⊥
Stops (takes.TokenAndFault t place) (Open s) = ⊥
Stops taken p = Unit {0}

-- ---- one token

-- the names, the place and the bytes that came stay
pub record Keeps (old new : Feeder) : Type 0 where
  pub names : new.names ≡ old.names
  pub place : new.place ≡ old.place
  pub stream : new.stream ≡ old.stream

-- these symbols are what is open, unless memory ran out
abbrev pub HasLeft : Progress → List Symbol → List Symbol → Type 0
HasLeft (Open s) behind ss = s ∷ reverse behind ≡ ss
HasLeft Done behind ss = ss ≡ []
HasLeft (Failed (faults.At place word)) behind ss = ⊥
HasLeft (Failed faults.Memory) behind ss = Unit {0}

-- a fault at this place of the text
abbrev pub failure : Feeder → ℕ → FaultWord → Progress
failure f place word = Failed (faults.At (min (f.place + place) (2 ^ 64 - 1)) word)

-- A token was taken that stands at this place.
pub record Goes (old new : Feeder) (more : List Symbol) (ds before later : List Event) : Type 0 where
  pub left : HasLeft new.progress new.behind.items (more ++ reverse old.behind.items)
  pub recorded : List Event
  pub grown : later ≡ before ++ recorded
  pub whole : (new.progress ≡ Failed faults.Memory → ⊥) → recorded ≡ ds
  pub all_or_none : (recorded ≡ []) ⊎ (recorded ≡ ds)

abbrev pub Accepts : Feeder → Feeder → Next → ℕ → List Event → List Event → Type 0
Accepts old new Wrong place before later = (new.progress ≡ failure old place words.Syntax) × (later ≡ before)
Accepts old new Unknown place before later = (new.progress ≡ failure old place words.Unknown) × (later ≡ before)
Accepts old new (nexts.Goes more ds) place before later = Goes old new more ds before later

-- where the reading goes on, it ends with a fault at this place
abbrev pub failed_open : Feeder → ℕ → FaultWord → Progress → Progress
failed_open f place word (Open s) = failure f place word
failed_open f place word p = p

abbrev pub FailsOpen : Feeder → Feeder → ℕ → FaultWord → Type 0
FailsOpen old new place word = new ≡ record old { progress = failed_open old place word old.progress }

-- without what the byte behind `most_bytes` others begins
abbrev pub without_byte : Taken → Taken
without_byte (takes.TokenAndFault t place) = takes.Token t
without_byte (takes.Fault place word) = if nat_le most_bytes place then takes.Nothing else takes.Fault place word
without_byte taken = taken
