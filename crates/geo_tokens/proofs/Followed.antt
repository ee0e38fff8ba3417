-- What goes on behind a value that was read.
use Rattle.std.proofs.Common.{◌≡◌, ◌<◌, List, [], ◌∷◌, ◌++◌, length, map, sym, ap, subst, ◌∙◌, Result, Ok, Err, Some, true, false}
use Rattle.std.proofs.lemmas.List.{map_push}
use Rattle.std.specs.Borrow.{Bor}
use Rattle.geo_tokens.specs.declared.token.Token.{Token}
use Rattle.geo_tokens.specs.declared.stop.Stop.{Stop}
use Rattle.geo_tokens.specs.Words.{Kinds, Lang}
use Rattle.geo_tokens.specs.Reading.{Read, Got, token_at, next_is, many_at, ◌>>=◌}
use Rattle.geo_tokens.specs.Gives.{Fails, Gives, Follows, Adds, with_front}
use Rattle.geo_tokens.proofs.Lists.{disjoint}
use Rattle.geo_tokens.proofs.Good.{Good}
use Rattle.geo_tokens.proofs.Loop.{fails_first, found_shorter, goes_on}

-- a value and then one token are what both give, one behind the other
pub followed : {A X : Type 0} (view : X → A) (ks : Kinds) (found both : Result (X × Bor (List Token)) Stop) (r : Read A)
    → Follows ks found both → Gives view found r → Gives view both (r >>= λ a rest. token_at ks rest >>= λ t last. Got (Some a) last)
followed view ks (Ok x) (Ok both) r h g = rw (g, h.1, h.2)
followed view ks (Ok x) (Err e) r h g = rw g (fails_first e (token_at ks x.1.now) _ h)
followed view ks (Err e) (Ok both) r h g = cc
followed view ks (Err e) (Err f) r h g = let same : f ≡ e = cc in rw same (fails_first e r _ g)

-- a value was found, and put behind those before
pub record Added {A X : Type 0} (view : X → A) (before items : List X) (rest : List Token) (r : Read A) : Type 0 where
  pub item : X
  pub read : r ≡ Got (Some (view item)) rest
  pub put : items ≡ before ++ item ∷ []

pub added : {A X : Type 0} (view : X → A) (found : Result (X × Bor (List Token)) Stop) (before items : List X) (rest : Bor (List Token)) (r : Read A)
    → Adds found before items (Ok rest) → Gives view found r → Added view before items rest.now r
added view (Ok x) before items rest r h g = record { item = x.0; read = g ∙ ap (Got (Some (view x.0))) (sym h.1); put = h.0 }
added view (Err e) before items rest r h g = cc

pub not_added : {A X : Type 0} (view : X → A) (found : Result (X × Bor (List Token)) Stop) (before items : List X) (e : Stop) (r : Read A)
    → Adds found before items (Err e) → Gives view found r → Fails e r
not_added view (Ok x) before items e r h g = rw h tt
not_added view (Err f) before items e r h g = let same : e ≡ f = cc in rw same g

-- A loop puts what it reads behind the items before.
module _ {A : Type 0} (L : Lang A) (r : List Token → Read A) (f e : Kinds) (good : Good L r false f e) (apart : disjoint e f ≡ true) where
  pub one_shorter : {X : Type 0} (view : X → A) (found : Result (X × Bor (List Token)) Stop) (before items : List X) (w : List Token) (rest : Bor (List Token))
      → Adds found before items (Ok rest) → Gives view found (r w) → length rest.now < length w
  one_shorter view found before items w rest h g =
      let a = added view found before items rest (r w) h g in
      found_shorter L r f e good apart w rest.now (view a.item) a.read

  pub one_more : {X : Type 0} (view : X → A) (found : Result (X × Bor (List Token)) Stop) (before items : List X) (w : List Token) (rest : Bor (List Token)) (total : Read (List A))
      → next_is f w ≡ true → Adds found before items (Ok rest) → Gives view found (r w)
      → with_front (map view before) (many_at f r w) ≡ total → with_front (map view items) (many_at f r rest.now) ≡ total
  one_more view found before items w rest total test h g so_far =
      let a = added view found before items rest (r w) h g in
      let put : map view items ≡ map view before ++ view a.item ∷ [] = ap (map view) a.put ∙ map_push view before a.item in
      subst (λ (xs : List A). with_front xs (many_at f r rest.now) ≡ total) (sym put) (goes_on L r f e good apart (map view before) w rest.now (view a.item) total test a.read so_far)

  pub one_more_alone : (found : Result (A × Bor (List Token)) Stop) (before items : List A) (w : List Token) (rest : Bor (List Token)) (total : Read (List A))
      → next_is f w ≡ true → Adds found before items (Ok rest) → Gives (λ a. a) found (r w)
      → with_front before (many_at f r w) ≡ total → with_front items (many_at f r rest.now) ≡ total
  one_more_alone found before items w rest total test h g so_far =
      let a = added (λ x. x) found before items rest (r w) h g in
      subst (λ (xs : List A). with_front xs (many_at f r rest.now) ≡ total) (sym a.put) (goes_on L r f e good apart before w rest.now a.item total test a.read so_far)
