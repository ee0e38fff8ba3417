-- Reading from the left, with one token of lookahead.
use Rattle.std.specs.Prelude.{◌≡◌, ℕ, zero, suc, List, [], ◌∷◌, ◌++◌, length, Option, Some, None, Bool, false, ◌⊎◌, if◌then◌else◌}
use Rattle.geo_tokens.specs.declared.token.Token.{Token}
use Rattle.geo_tokens.specs.Class.{class_of}
use Rattle.geo_tokens.specs.Words.{Kinds, has, Lang, start_of}

-- What reading gives, with the tokens that are left: a value (`Some`), the cut behind a token that opens a
-- level too many (`None`), or that the tokens read so far go on in no list of the language.
pub data Read (A : Type 0) : Type 0 where
  Got : Option A → List Token → Read A
  Wrong : List Token → Read A

infixl 10 ◌>>=◌
abbrev pub ◌>>=◌ : {A B : Type 0} → Read A → (A → List Token → Read B) → Read B
(Got (Some a) rest) >>= f = f a rest
(Got None rest) >>= f = Got None rest
(Wrong rest) >>= f = Wrong rest

abbrev pub one_at : {A : Type 0} → Kinds → (Token → Option A) → List Token → Read A
one_at ks f [] = Wrong []
one_at ks f (t ∷ rest) = if has ks (class_of t.kind) then Got (f t) rest else Wrong (t ∷ rest)

abbrev pub token_at : Kinds → List Token → Read Token
token_at ks = one_at ks (λ t. Some t)

abbrev pub cut_at : {A : Type 0} → Kinds → List Token → Read A
cut_at ks = one_at ks (λ t. None)

-- the next token is of one of these kinds
abbrev pub next_is : Kinds → List Token → Bool
next_is ks [] = false
next_is ks (t ∷ rest) = has ks (class_of t.kind)

abbrev pub either_at : {A : Type 0} → Kinds → (List Token → Read A) → (List Token → Read A) → List Token → Read A
either_at ks r s w = if next_is ks w then r w else s w

abbrev pub opt_at : {A : Type 0} → Kinds → (List Token → Read A) → A → List Token → Read A
opt_at ks r a w = if next_is ks w then r w else Got (Some a) w

abbrev pub up_to_at : {A : Type 0} → Kinds → (List Token → Read A) → ℕ → List Token → Read (List A)
up_to_at ks r zero w = Got (Some []) w
up_to_at ks r (suc k) w = if next_is ks w then (r w >>= λ a rest. up_to_at ks r k rest >>= λ others last. Got (Some (a ∷ others)) last) else Got (Some []) w

-- one list that begins with these kinds after the other
abbrev pub many_at : {A : Type 0} → Kinds → (List Token → Read A) → List Token → Read (List A)
many_at ks r w = up_to_at ks r (length w) w

-- what begins with these kinds is a list of L, what begins otherwise is one of E
abbrev pub up_to_ended_at : {A B : Type 0} → Kinds → Kinds → (List Token → Read A) → (List Token → Read B) → ℕ → List Token → Read (List A × Option B)
up_to_ended_at marks ks r s zero w = Got (Some ([], None)) w
up_to_ended_at marks ks r s (suc k) w =
    opt_at marks (λ v. token_at marks v >>= λ m v1. either_at ks
    (λ v2. r v2 >>= λ a v3. up_to_ended_at marks ks r s k v3 >>= λ q v4. Got (Some (a ∷ q.0, q.1)) v4)
    (λ v2. s v2 >>= λ e v3. Got (Some ([], Some e)) v3) v1) ([], None) w

-- lists behind marks, the last of which may be another one
abbrev pub many_ended_at : {A B : Type 0} → Kinds → Kinds → (List Token → Read A) → (List Token → Read B) → List Token → Read (List A × Option B)
many_ended_at marks ks r s w = up_to_ended_at marks ks r s (length w) w

abbrev pub placed_at : {A B : Type 0} → (List Token → Read A) → (ℕ → A → B) → List Token → Read B
placed_at r made w = r w >>= λ a rest. Got (Some (made (start_of w) a)) rest

abbrev pub chain_at : {A : Type 0} → Kinds → (List Token → Read A) → List Token → Read (A × List A)
chain_at marks r w = r w >>= λ a rest. many_at marks (λ v. token_at marks v >>= λ mark after. r after) rest >>= λ others last. Got (Some (a, others)) last

-- A list that goes on behind a run parts from what is left at once: it has a token there, and it is
-- another than the next one that is left.
abbrev pub Parts : List Token → List Token → Type 0
Parts [] rest = ⊥
Parts (t ∷ v) [] = Unit {0}
Parts (t ∷ v) (s ∷ rest) = t ≡ s → ⊥

-- A value was read: some run of the tokens spells it, and no list of the language begins with that run
-- and the next token; nor does the run spell anything else.
pub record Found {A : Type 0} (L : Lang A) (w : List Token) (o : Option A) (rest : List Token) : Type 0 where
  pub run : List Token
  pub parts : w ≡ run ++ rest
  pub word : L o run
  pub only : (p : Option A) (v : List Token) → L p (run ++ v) → ((v ≡ []) × (p ≡ o)) ⊎ Parts v rest

-- Nothing was read: some run of the tokens begins a list of the language, and none is that run, or begins
-- with it and the next token.
pub record Lost {A : Type 0} (L : Lang A) (w : List Token) (rest : List Token) : Type 0 where
  pub run : List Token
  pub parts : w ≡ run ++ rest
  pub value : Option A
  pub more : List Token
  pub begins : L value (run ++ more)
  pub only : (p : Option A) (v : List Token) → L p (run ++ v) → Parts v rest

abbrev pub Is : {A : Type 0} → Lang A → List Token → Read A → Type 0
Is L w (Got o rest) = Found L w o rest
Is L w (Wrong rest) = Lost L w rest
