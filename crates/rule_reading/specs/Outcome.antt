-- What a call answers that reads a language from one of a text's tokens on. Its run is the longest run of tokens from
-- there that begins a list of the language.
use Rattle.std.specs.Prelude.{◌≡◌, ℕ, ◌+◌, ◌-◌, ◌<◌, ◌≤◌, List, [], ◌∷◌, ◌++◌, drop, length, None, Result, Ok, Err}
use Rattle.geo_tokens.specs.declared.token.Token.{Token}
use Rattle.geo_tokens.specs.declared.stop.Stop.{Stop}
use Rattle.geo_tokens.specs.declared.stop.Stop.TheVariants as stops
use Rattle.geo_tokens.specs.declared.fault.TextFault.{TextFault}
use Rattle.geo_tokens.specs.declared.fault.TextFault.TheVariants as faults
use Rattle.geo_tokens.specs.declared.fault.FaultWord.TheVariants as fault_words
use Rattle.geo_tokens.specs.Words.{Lang, start_of}
use Rattle.geo_tokens.specs.Deep.{IsValue, IsFault, IsDeep}

-- the place of the first token, or the end of the text where no token is left
abbrev pub place_of : ℕ → List Token → ℕ
place_of end [] = end
place_of end (t ∷ w) = t.start

-- no token of the run opens a level more than the limit
abbrev pub IsWithin : {A : Type 0} → (ℕ → Lang A) → ℕ → List Token → Type 0
IsWithin L limit w = (y v : List Token) → w ≡ y ++ v → L limit None y → ⊥

-- The run spells the value and nothing else, with no more levels than the limit, and ends before the token `next`.
pub record HasValue {A : Type 0} (L : ℕ → Lang A) (limit : ℕ) (list : List Token) (from : ℕ) (a : A) (next : ℕ) : Type 0 where
  pub in_list : next ≤ length list
  pub value : IsValue L (drop from list) a (drop next list)
  pub within : IsWithin L limit (drop from list)

-- The run spells nothing, opens no more levels than the limit, and the token behind it, or the end, is at the place.
pub record HasFault {A : Type 0} (L : ℕ → Lang A) (limit end : ℕ) (list : List Token) (from place : ℕ) : Type 0 where
  pub next : ℕ
  pub in_list : next ≤ length list
  pub fault : IsFault L (drop from list) (drop next list)
  pub within : IsWithin L limit (drop from list)
  pub at : place ≡ place_of end (drop next list)

-- The token at the place is the first one that opens a level more than the limit, and up to it the tokens begin a list.
pub record HasDeep {A : Type 0} (L : ℕ → Lang A) (limit : ℕ) (list : List Token) (from place : ℕ) : Type 0 where
  pub token : ℕ
  pub in_list : token < length list
  pub fault : IsDeep L limit (drop from list) (drop (token + 1) list)
  pub at : place ≡ start_of (drop token list)

abbrev pub Refuses : {A : Type 0} → TextFault → (ℕ → Lang A) → ℕ → ℕ → List Token → ℕ → Type 0
Refuses faults.Memory L limit end list from = Unit {0}
Refuses (faults.At place fault_words.Syntax) L limit end list from = HasFault L limit end list from place
Refuses (faults.At place fault_words.Deep) L limit end list from = HasDeep L limit list from place
Refuses (faults.At place _) L limit end list from = ⊥

-- the answer, where the text ends at `end`
abbrev pub ReadsFrom : {A X : Type 0} → (X → A) → Result (X × ℕ) TextFault → (ℕ → Lang A) → ℕ → ℕ → List Token → ℕ → Type 0
ReadsFrom view (Ok x) L limit end list from = HasValue L limit list from (view x.0) x.1
ReadsFrom view (Err e) L limit end list from = Refuses e L limit end list from

-- ---- where reading stopped

-- what is left is a part of the list, and a smaller one where a token was taken
abbrev pub IsInside : List Token → Stop → Type 0
IsInside list stops.Memory = Unit {0}
IsInside list (stops.Wrong rest) = length rest.now ≤ length list
IsInside list (stops.Deep rest) = length rest.now < length list

-- the fault that a stop names, with its place
abbrev pub fault_of : ℕ → List Token → Stop → TextFault
fault_of end list stops.Memory = faults.Memory
fault_of end list (stops.Wrong rest) = faults.At (place_of end rest.now) fault_words.Syntax
fault_of end list (stops.Deep rest) = faults.At (start_of (drop (length list - length rest.now - 1) list)) fault_words.Deep
