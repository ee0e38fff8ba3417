-- What a function that reads returned is what reading gives, unless memory ran out.
use Rattle.std.specs.Prelude.{ℕ, ◌≡◌, List, [], ◌∷◌, ◌++◌, drop, true, false, Option, Some, None, Result, Ok, Err}
use Rattle.std.specs.Borrow.{Bor}
use Rattle.geo_tokens.specs.declared.token.Token.{Token}
use Rattle.geo_tokens.specs.Words.{Kinds, Lang}
use Rattle.geo_tokens.specs.Deep.{IsValue, IsFault, IsDeep, IsText, IsTextFault}
use Rattle.geo_tokens.specs.declared.stop.Stop.{Stop}
use Rattle.geo_tokens.specs.declared.stop.Stop.TheVariants as stops
use Rattle.geo_tokens.specs.Reading.{Read, Got, Wrong, next_is, token_at, ◌>>=◌}

abbrev pub Fails : {A : Type 0} → Stop → Read A → Type 0
Fails stops.Memory r = Unit {0}
Fails (stops.Wrong rest) r = r ≡ Wrong rest.now
Fails (stops.Deep rest) r = r ≡ Got None rest.now

abbrev pub Gives : {A X : Type 0} → (X → A) → Result (X × Bor (List Token)) Stop → Read A → Type 0
Gives view (Ok x) r = r ≡ Got (Some (view x.0)) x.1.now
Gives view (Err e) r = Fails e r

-- the values before, and those that are read behind them
abbrev pub with_front : {A : Type 0} → List A → Read (List A) → Read (List A)
with_front front read = read >>= λ others rest. Got (Some (front ++ others)) rest

-- the tokens behind one of these kinds, where one stands
abbrev pub IsBehind : Kinds → List Token → Option (Bor (List Token)) → Type 0
IsBehind ks w (Some rest) = (t : Token) × (next_is ks w ≡ true) × (token_at ks w ≡ Got (Some t) rest.now)
IsBehind ks w None = (next_is ks w ≡ false) × (token_at ks w ≡ Wrong w)

-- A value was found, or reading stopped; and a token of these kinds was taken behind it.
abbrev pub Follows : {X : Type 0} → Kinds → Result (X × Bor (List Token)) Stop → Result (X × Bor (List Token)) Stop → Type 0
Follows ks (Ok x) (Ok both) = (t : Token) × (token_at ks x.1.now ≡ Got (Some t) both.1.now) × (both.0 ≡ x.0)
Follows ks (Ok x) (Err e) = Fails e (token_at ks x.1.now)
Follows ks (Err e) both = both ≡ Err e

-- A value was found, or reading stopped; and it was put behind the items before, unless memory ran out.
abbrev pub Adds : {X : Type 0} → Result (X × Bor (List Token)) Stop → List X → List X → Result (Bor (List Token)) Stop → Type 0
Adds (Ok x) before items (Ok rest) = (items ≡ before ++ x.0 ∷ []) × (rest.now ≡ x.1.now)
Adds (Ok x) before items (Err e) = e ≡ stops.Memory
Adds (Err e) before items added = added ≡ Err e

-- What a function returned reads the language L from the front of w, where `limit` levels may be opened,
-- unless memory ran out.
abbrev pub Stops : {A : Type 0} → (ℕ → Lang A) → ℕ → List Token → Stop → Type 0
Stops L limit w stops.Memory = Unit {0}
Stops L limit w (stops.Wrong rest) = IsFault L w rest.now
Stops L limit w (stops.Deep rest) = IsDeep L limit w rest.now

abbrev pub Reads : {A X : Type 0} → (X → A) → Result (X × Bor (List Token)) Stop → (ℕ → Lang A) → ℕ → List Token → Type 0
Reads view (Ok x) L limit w = IsValue L w (view x.0) x.1.now
Reads view (Err e) L limit w = Stops L limit w e

-- The same of a whole text.
abbrev pub StopsText : {A : Type 0} → (ℕ → Lang A) → ℕ → List Token → Stop → Type 0
StopsText L limit w stops.Memory = Unit {0}
StopsText L limit w (stops.Wrong rest) = IsTextFault L w rest.now
StopsText L limit w (stops.Deep rest) = IsDeep L limit w rest.now

abbrev pub ReadsText : {A X : Type 0} → (X → A) → Result X Stop → (ℕ → Lang A) → ℕ → List Token → Type 0
ReadsText view (Ok x) L limit w = IsText L w (view x)
ReadsText view (Err e) L limit w = StopsText L limit w e

-- Why reading stopped where no level may be opened: behind a token of these kinds, which would open one, and before any
-- other.
abbrev pub Refuses : Kinds → List Token → Stop → Type 0
Refuses ks w stops.Memory = ⊥
Refuses ks w (stops.Wrong rest) = (next_is ks w ≡ false) × (rest.now ≡ w)
Refuses ks w (stops.Deep rest) = (next_is ks w ≡ true) × (rest.now ≡ drop 1 w)
