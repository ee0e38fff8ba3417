-- A loop that reads one list of a language after the other.
use Rattle.std.proofs.Common.{◌≡◌, ℕ, zero, suc, ◌<◌, List, [], ◌∷◌, ◌++◌, length, Some, None, Result, Ok, Err, Bool, true, false, refl, sym, ap, ◌∙◌, append_assoc, subst, arith}
use Rattle.std.specs.Prelude.{if◌then◌else◌}
use Rattle.std.proofs.lemmas.List.{append-nil}
use Rattle.geo_tokens.specs.declared.token.Token.{Token}
use Rattle.geo_tokens.specs.Words.{Kinds, has, Lang}
use Rattle.geo_tokens.specs.Class.{class_of}
use Rattle.geo_tokens.specs.Reading.{Read, Got, Wrong, ◌>>=◌, Is, next_is, up_to_at, many_at, token_at, cut_at, either_at}
use Rattle.geo_tokens.specs.Gives.{Fails, Gives, Stops, Reads, with_front}
use Rattle.geo_tokens.specs.Deep.{IsReading}
use Rattle.std.specs.Borrow.{Bor}
use Rattle.geo_tokens.specs.declared.stop.Stop.{Stop}
use Rattle.geo_tokens.specs.declared.stop.Stop.TheVariants as stops
use Rattle.geo_tokens.proofs.Lists.{disjoint}
use Rattle.geo_tokens.proofs.Many.{steady, shorter}
use Rattle.geo_tokens.proofs.Good.{Good}

-- a step that fails makes the whole fail
pub fails_first : {A B : Type 0} (e : Stop) (r : Read A) (s : A → List Token → Read B) → Fails e r → Fails e (r >>= s)
fails_first stops.Memory r s h = tt
fails_first (stops.Wrong rest) r s h = ap (λ u. u >>= s) h
fails_first (stops.Deep rest) r s h = ap (λ u. u >>= s) h

-- nothing was read before
pub none_before : {A : Type 0} (r : Read (List A)) → with_front [] r ≡ r
none_before (Got (Some others) rest) = refl
none_before (Got None rest) = refl
none_before (Wrong rest) = refl

regroup : {A : Type 0} (front : List A) (a : A) (r : Read (List A)) → with_front front (r >>= λ others last. Got (Some (a ∷ others)) last) ≡ with_front (front ++ a ∷ []) r
regroup front a (Got (Some others) rest) = ap (λ u. Got (Some u) rest) (sym (append_assoc front (a ∷ []) others))
regroup front a (Got None rest) = refl
regroup front a (Wrong rest) = refl

module _ {A : Type 0} (L : Lang A) (r : List Token → Read A) (f e : Kinds) (good : Good L r false f e) (apart : disjoint e f ≡ true) where
  -- what is read behind the first item
  rest_at : ℕ → Read A → Read (List A)
  rest_at k x = x >>= λ a rest. up_to_at f r k rest >>= λ others last. Got (Some (a ∷ others)) last

  step_of : (t : Token) (w : List Token) → next_is f (t ∷ w) ≡ true → many_at f r (t ∷ w) ≡ rest_at (length w) (r (t ∷ w))
  unfolding rest_at
  step_of t w test = ap (λ b. if b then rest_at (length w) (r (t ∷ w)) else Got (Some []) (t ∷ w)) test

  pub found_shorter : (w after : List Token) (a : A) → r w ≡ Got (Some a) after → length after < length w
  found_shorter w after a h = shorter L f e good.facts apart r good.reads w after (Some a) (subst (λ (x : Read A). Is L w x) h (good.reads w))

  -- one more item was read
  pub goes_on : (front : List A) (w after : List Token) (a : A) (total : Read (List A)) → next_is f w ≡ true → r w ≡ Got (Some a) after
      → with_front front (many_at f r w) ≡ total → with_front (front ++ a ∷ []) (many_at f r after) ≡ total
  unfolding rest_at
  goes_on front [] after a total test h so_far = absurd cc
  goes_on front (t ∷ w) after a total test h so_far =
      let one : many_at f r (t ∷ w) ≡ rest_at (length w) (r (t ∷ w)) = step_of t w test in
      let two : rest_at (length w) (r (t ∷ w)) ≡ rest_at (length w) (Got (Some a) after) = ap (rest_at (length w)) h in
      let lt : length after < length (t ∷ w) = found_shorter (t ∷ w) after a h in
      let three : up_to_at f r (length w) after ≡ many_at f r after = steady L f e good.facts apart r good.reads (length w) (length after) after (omega arith) (omega arith) in
      let four : many_at f r (t ∷ w) ≡ (many_at f r after >>= λ others last. Got (Some (a ∷ others)) last) = one ∙ two ∙ ap (λ (x : Read (List A)). x >>= λ others last. Got (Some (a ∷ others)) last) three in
      sym (ap (with_front front) four ∙ regroup front a (many_at f r after)) ∙ so_far

-- no more items stand there
none_at : {A : Type 0} (f : Kinds) (r : List Token → Read A) (k : ℕ) (w : List Token) → next_is f w ≡ false → up_to_at f r k w ≡ Got (Some []) w
none_at f r zero w test = refl
none_at {A} f r (suc k) w test = ap (λ b. if b then (r w >>= λ a rest. up_to_at f r k rest >>= λ others last. Got (Some (a ∷ others)) last) else Got (Some []) w) test

pub is_done : {A : Type 0} (f : Kinds) (r : List Token → Read A) (front : List A) (w : List Token) (total : Read (List A)) → next_is f w ≡ false → with_front front (many_at f r w) ≡ total → total ≡ Got (Some front) w
is_done f r front w total test so_far = sym so_far ∙ ap (with_front front) (none_at f r (length w) w test) ∙ ap (λ u. Got (Some u) w) (append-nil front)

-- a token that opens a level too many is taken, and then refused
cut_tested : {A : Type 0} (b : Bool) (t : Token) (rest w : List Token) → (let cut : Read A = if b then Got None rest else Wrong w in cut) ≡ ((if b then Got (Some t) rest else Wrong w) >>= λ u last. Got None last)
cut_tested true t rest w = refl
cut_tested false t rest w = refl

pub cut_is : {A : Type 0} (ks : Kinds) (w : List Token) → cut_at {A = A} ks w ≡ (token_at ks w >>= λ t rest. Got None rest)
cut_is ks [] = refl
cut_is ks (t ∷ w) = cut_tested (has ks (class_of t.kind)) t w (t ∷ w)

pub either_first : {A : Type 0} (ks : Kinds) (r s : List Token → Read A) (w : List Token) → next_is ks w ≡ true → either_at ks r s w ≡ r w
either_first ks r s w test = ap (λ b. if b then r w else s w) test

pub either_second : {A : Type 0} (ks : Kinds) (r s : List Token → Read A) (w : List Token) → next_is ks w ≡ false → either_at ks r s w ≡ s w
either_second ks r s w test = ap (λ b. if b then r w else s w) test

-- what reading gives is right, and the function gives it
stops_reads : {A : Type 0} (L : ℕ → Lang A) (n : ℕ) (w : List Token) (e : Stop) (r : Read A) → Fails e r → IsReading L n w r → Stops L n w e
stops_reads L n w stops.Memory r h i = tt
stops_reads {A} L n w (stops.Wrong rest) r h i = subst (λ (u : Read A). IsReading L n w u) h i
stops_reads {A} L n w (stops.Deep rest) r h i = subst (λ (u : Read A). IsReading L n w u) h i

pub gives_reads : {A X : Type 0} (view : X → A) (res : Result (X × Bor (List Token)) Stop) (L : ℕ → Lang A) (n : ℕ) (w : List Token) (r : Read A) → Gives view res r → IsReading L n w r → Reads view res L n w
gives_reads {A} view (Ok x) L n w r h i = subst (λ (u : Read A). IsReading L n w u) h i
gives_reads {A} view (Err e) L n w r h i = stops_reads L n w e r h i
