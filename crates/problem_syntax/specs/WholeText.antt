-- What a list of tokens is as a whole text of a language, where `limit` levels may be open at a time and the text ends
-- at `end`: either it spells one value, or it has one first fault.
use Rattle.std.specs.Prelude.{◌≡◌, ℕ, List, Result, Ok, Err}
use Rattle.geo_tokens.specs.declared.token.Token.{Token}
use Rattle.geo_tokens.specs.declared.fault.FaultWord.{FaultWord}
use Rattle.geo_tokens.specs.declared.fault.FaultWord.TheVariants as words
use Rattle.geo_tokens.specs.declared.fault.TextFault.{TextFault}
use Rattle.geo_tokens.specs.declared.fault.TextFault.TheVariants as faults
use Rattle.geo_tokens.specs.Words.{Lang}
use Rattle.geo_tokens.specs.Deep.{IsTextFault}
use Rattle.problem_data.specs.Whole.{IsWhole}
use Rattle.rule_reading.specs.Outcome.{place_of, IsWithin, HasDeep}

-- Some text begins with the tokens before the place, and none with these and the token at the place, or with these alone
-- where the place is the end of the text; and no front of the tokens opens a level too many.
pub record IsWrong {A : Type 0} (L : ℕ → Lang A) (limit end : ℕ) (list : List Token) (place : ℕ) : Type 0 where
  pub rest : List Token
  pub fault : IsTextFault L list rest
  pub within : IsWithin L limit list
  pub at : place ≡ place_of end rest

-- the first fault of the tokens
abbrev pub FirstFault : {A : Type 0} → (ℕ → Lang A) → ℕ → ℕ → List Token → ℕ → FaultWord → Type 0
FirstFault L limit end list place words.Syntax = IsWrong L limit end list place
FirstFault L limit end list place words.Deep = HasDeep L limit list 0 place
FirstFault L limit end list place _ = ⊥

-- a call's answer: what the tokens spell, or their first fault, unless memory ran out
abbrev pub AnswersText : {A X : Type 0} → (X → A) → Result X TextFault → (ℕ → Lang A) → ℕ → ℕ → List Token → Type 0
AnswersText view (Ok x) L limit end list = IsWhole L limit list (view x)
AnswersText view (Err (faults.At place word)) L limit end list = FirstFault L limit end list place word
AnswersText view (Err faults.Memory) L limit end list = Unit {0}

-- nothing else is true of the tokens
abbrev pub IsOnlyAnswer : {A X : Type 0} → (X → A) → Result X TextFault → (ℕ → Lang A) → ℕ → ℕ → List Token → Type 0
IsOnlyAnswer {A} view (Ok x) L limit end list = ((b : A) → IsWhole L limit list b → b ≡ view x) × ((p : ℕ) (w : FaultWord) → FirstFault L limit end list p w → ⊥)
IsOnlyAnswer {A} view (Err (faults.At place word)) L limit end list = ((b : A) → IsWhole L limit list b → ⊥) × ((p : ℕ) (w : FaultWord) → FirstFault L limit end list p w → (p ≡ place) × (w ≡ word))
IsOnlyAnswer view (Err faults.Memory) L limit end list = Unit {0}
