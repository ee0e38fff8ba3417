-- What the bounded reading of a text takes.
use Rattle.std.specs.Prelude.{◌≡◌, ◌⊎◌, ◌<◌, ◌≤◌, ◌+◌, ◌-◌, ℕ, List, [], ◌++◌, length, Option, None, Some, Result, Ok, Err, IsErrOf}
use Rattle.std.specs.Io.KnownBytes.{Consumes, IsAtEnd}
use Rattle.geo_chan.specs.Causes.{Rose}
use Rattle.geo_tokens.specs.FirstEnd.{IsFirstEnd}
use Rattle.command_input.specs.declared.read.ReadFault.{ReadFault}
use Rattle.command_input.specs.declared.read.ReadFault.TheVariants.{Failed, Memory}

-- what a source had left, where it tells it
abbrev pub Tells : Option (List ℕ) → List ℕ → Type 0
Tells None input = Unit {0}
Tells (Some bytes) input = input ≡ bytes

-- the text is the whole input, or a front part of it that is already too long
pub record IsFirstText (input text : List ℕ) : Type 0 where
  pub rest : List ℕ
  pub front : input ≡ text ++ rest
  pub whole : (rest ≡ []) ⊎ (1048576 < length text)

-- the text was read from a source that had this left
abbrev pub IsReadFrom : Option (List ℕ) → List ℕ → Type 0
IsReadFrom left text = (input : List ℕ) × Tells left input × IsFirstText input text

-- the bytes are the whole input; or one of the two texts that they begin with is already too long
pub record AreFirstTexts (input bytes : List ℕ) : Type 0 where
  pub rest : List ℕ
  pub front : input ≡ bytes ++ rest
  pub whole : (rest ≡ []) ⊎ ((1048576 < length bytes) × ((e : ℕ) → IsFirstEnd bytes e → e ≤ 1048576 → e + 1048576 < length bytes))

-- the two texts were read from a source that had this left
abbrev pub AreReadFrom : Option (List ℕ) → List ℕ → Type 0
AreReadFrom left bytes = (input : List ℕ) × Tells left input × AreFirstTexts input bytes

-- at most so many bytes were taken from a source that had this left
abbrev pub TakesAtMost : ℕ → Option (List ℕ) → Option (List ℕ) → Type 0
TakesAtMost most old new = (front : List ℕ) × Consumes old new front × (length front ≤ most)

-- the count of faults stays where the answer is no fault of the source
abbrev pub ReadStays : {T : Type 0} → ℕ → ℕ → Result T ReadFault → Type 0
ReadStays before now (Ok _) = now ≡ before
ReadStays before now (Err Failed) = Unit {0}
ReadStays before now (Err Memory) = now ≡ before

-- the count of faults did not fall, a fault was answered only where it rose, and anything else only where it stayed
pub record ReadCause {T : Type 0} (before now : ℕ) (result : Result T ReadFault) : Type 0 where
  pub later : before ≤ now
  pub failed : IsErrOf result Failed → Rose before now
  pub stays : ReadStays before now result

-- bytes were taken behind those that were there, until the input ended or there were as many as that
pub record ReadsUpTo (most : ℕ) (left left_new : Option (List ℕ)) (old new : List ℕ) : Type 0 where
  pub more : List ℕ
  pub behind : new ≡ old ++ more
  pub taken : Consumes left left_new more
  pub short : length more ≤ most - length old
  pub ends : IsAtEnd left_new ⊎ (most ≤ length new)

-- the same, where a first text ends within as many bytes as a text may have and there is one byte more: up to one byte more than
-- the second text may have; and nothing was taken where not
pub record ReadsOn (left left_new : Option (List ℕ)) (old new : List ℕ) : Type 0 where
  pub more : List ℕ
  pub behind : new ≡ old ++ more
  pub taken : Consumes left left_new more
  pub ends : (length old < 1048577) ⊎ (IsAtEnd left_new ⊎ ((e : ℕ) → IsFirstEnd old e → e ≤ 1048576 → e + 1048577 ≤ length new))
