-- A language whose lists may open any number of levels, and reading it up to a limit.
use Rattle.std.specs.Prelude.{◌≡◌, ℕ, List, [], ◌∷◌, ◌++◌, Some, None, ◌⊎◌}
use Rattle.geo_tokens.specs.declared.token.Token.{Token}
use Rattle.geo_tokens.specs.Words.{Lang}
use Rattle.geo_tokens.specs.Reading.{Read, Got, Wrong, Parts}

-- the list spells the value, whatever levels it opens
abbrev pub Spells : {A : Type 0} → (ℕ → Lang A) → A → List Token → Type 0
Spells L a w = (n : ℕ) × L n (Some a) w

-- A value was read: some run spells it, nothing else, and no list that goes on with the next token spells any.
pub record IsValue {A : Type 0} (L : ℕ → Lang A) (w : List Token) (a : A) (rest : List Token) : Type 0 where
  pub run : List Token
  pub parts : w ≡ run ++ rest
  pub spells : Spells L a run
  pub only : (b : A) (v : List Token) → Spells L b (run ++ v) → ((v ≡ []) × (b ≡ a)) ⊎ Parts v rest

-- A first fault: some run begins a list that spells something; none is the run, or begins with it and the next token.
pub record IsFault {A : Type 0} (L : ℕ → Lang A) (w rest : List Token) : Type 0 where
  pub run : List Token
  pub parts : w ≡ run ++ rest
  pub value : A
  pub more : List Token
  pub begins : Spells L value (run ++ more)
  pub only : (b : A) (v : List Token) → Spells L b (run ++ v) → Parts v rest

-- The last token of the run opens a level more than the limit, and none before it does; and the run begins a
-- list that spells something.
pub record IsDeep {A : Type 0} (L : ℕ → Lang A) (limit : ℕ) (w rest : List Token) : Type 0 where
  pub run : List Token
  pub parts : w ≡ run ++ rest
  pub cut : L limit None run
  pub value : A
  pub more : List Token
  pub begins : Spells L value (run ++ more)

abbrev pub IsReading : {A : Type 0} → (ℕ → Lang A) → ℕ → List Token → Read A → Type 0
IsReading L limit w (Got (Some a) rest) = IsValue L w a rest
IsReading L limit w (Got None rest) = IsDeep L limit w rest
IsReading L limit w (Wrong rest) = IsFault L w rest

-- A list that goes on behind a run departs from the text at once: one ends and the other does not, or their
-- next tokens differ.
abbrev pub Departs : List Token → List Token → Type 0
Departs [] [] = ⊥
Departs [] (s ∷ rest) = Unit {0}
Departs (t ∷ v) [] = Unit {0}
Departs (t ∷ v) (s ∷ rest) = t ≡ s → ⊥

-- The first fault of a whole text: some run begins a list that spells something, and each such list departs from
-- the text behind that run.
pub record IsTextFault {A : Type 0} (L : ℕ → Lang A) (w rest : List Token) : Type 0 where
  pub run : List Token
  pub parts : w ≡ run ++ rest
  pub value : A
  pub more : List Token
  pub begins : Spells L value (run ++ more)
  pub only : (b : A) (v : List Token) → Spells L b (run ++ v) → Departs v rest

-- the whole text spells this, and nothing else
pub record IsText {A : Type 0} (L : ℕ → Lang A) (w : List Token) (a : A) : Type 0 where
  pub spells : Spells L a w
  pub only : (b : A) → Spells L b w → b ≡ a
