-- A walk that begins after a token.
use Rattle.std.proofs.Common.{◌≡◌, ℕ, zero, suc, ◌<◌, ◌≤◌, Bool, true, false, List, [], ◌∷◌, ◌++◌, length, take, get_or, refl, sym, ap, ◌∙◌, subst, inl, inr, arith, ℤ, pos, Option, Some, None}
use Rattle.std.specs.Prelude.{IfSome}
use Rattle.std.proofs.lemmas.Int.{ints}
use Rattle.geo_conditions.specs.Reach.{State}
use Rattle.geo_conditions.specs.Walk.{Variable, PlaceOf, CoordinateOf, IsBefore, Precedes, IsAfter, Begins, Tree}
use Rattle.trail_search.specs.Cursor.{after, AtNext, Rest, OnWay, Later, FollowsToken, token_bound, bound_at}
use Rattle.trail_search.proofs.Visit.{compare, past_of, not_before_past}

-- of two values not each comes before the other
pub twice : (x : Variable) (u w : ℤ) → IsBefore x u w → IsBefore x w u → ⊥
twice (PlaceOf o) u w k l = absurd (omega (arith, ints, k, l))
twice (CoordinateOf o d false) u w k l = absurd (omega (arith, ints, k, l))
twice (CoordinateOf o d true) u w k l = absurd (omega (arith, ints, k, l))

-- one value before another before a third
chain : (x : Variable) (u v w : ℤ) → IsBefore x u v → IsBefore x v w → IsBefore x u w
chain (PlaceOf o) u v w h k = omega (arith, ints, h, k)
chain (CoordinateOf o d false) u v w h k = omega (arith, ints, h, k)
chain (CoordinateOf o d true) u v w h k = omega (arith, ints, h, k)

-- no value comes before itself
never : (x : Variable) (u w : ℤ) → u ≡ w → IsBefore x w u → ⊥
never x u w e h = let l : IsBefore x w w = subst (IsBefore x w) e h in twice x w w l l

-- a prefix that branches off later comes after the tuple
later_precedes : (xs : List Variable) (t r : List ℤ) → Later xs t r → Precedes xs (take (length r) t) r
later_precedes [] t r h = absurd h
later_precedes (x ∷ xs) [] r h = absurd h
later_precedes (x ∷ xs) (t ∷ ts) [] h = absurd h
later_precedes (x ∷ xs) (t ∷ ts) (w ∷ r) (inl b) = inl b
later_precedes (x ∷ xs) (t ∷ ts) (w ∷ r) (inr h) = inr (h.0, later_precedes xs ts r h.1)

-- so it is in the walk after the tuple
pub later_after : (xs : List Variable) (t r : List ℤ) → Later xs t r → IsAfter xs t r
later_after xs t r h = inl (later_precedes xs t r h)

-- the same first value in front of both
after_cons : (x : Variable) (xs : List Variable) (t w : ℤ) (ts r : List ℤ) → t ≡ w → IsAfter xs ts r → IsAfter (x ∷ xs) (t ∷ ts) (w ∷ r)
after_cons x xs t w ts r e (inl p) = inl (inr (e, p))
after_cons x xs t w ts r e (inr h) = inr (ap (λ (z : ℤ). z ∷ r) (sym e) ∙ ap (λ (l : List ℤ). t ∷ l) h.0, omega (arith, h.1))

-- the first value, if there is one
abbrev head_or : ℤ → List ℤ → ℤ
head_or v [] = v
head_or v (w ∷ r) = w

-- the values after the first
abbrev tail_of : List ℤ → List ℤ
tail_of [] = []
tail_of (w ∷ r) = r

-- the same first value taken from both
after_tail : (x : Variable) (xs : List Variable) (t w : ℤ) (ts r : List ℤ) → t ≡ w → IsAfter (x ∷ xs) (t ∷ ts) (w ∷ r) → IsAfter xs ts r
after_tail x xs t w ts r e (inl (inl b)) = absurd (never x w t (sym e) b)
after_tail x xs t w ts r e (inl (inr p)) = inl p.1
after_tail x xs t w ts r e (inr h) = inr (ap tail_of h.0, omega (arith, h.1))

-- the value, if there is one
abbrev value_of : Option ℤ → ℤ
value_of None = pos 0
value_of (Some v) = v

-- what a token's bound leaves comes after the token
onway_base : (x : Variable) (xs : List Variable) (t : ℤ) (ts : List ℤ) (u : ℤ) → length ts ≡ length xs → (IsBefore x u (token_bound x xs t) → ⊥) → IsAfter (x ∷ xs) (t ∷ ts) (u ∷ [])
onway_base x [] t ts u l n = inl (inl (past_of x t u n))
onway_base x (y ∷ ys) t ts u l n = elim (compare x t u) [
  | inl b ↦ inl (inl b)
  | inr d ↦ elim d [ inl e ↦ inr (ap (λ (z : ℤ). z ∷ []) (sym e), omega arith) | inr b ↦ absurd (n b) ]
]

-- on the way of the token, what is left comes after it
pub onway_after : (xs : List Variable) (t q : List ℤ) (b : Option ℤ) (u : ℤ) → length t ≡ length xs → OnWay xs t q b → Rest xs q b (q ++ u ∷ []) → IsAfter xs t (q ++ u ∷ [])
onway_after [] t q b u l o h = absurd o
onway_after (x ∷ xs) [] q b u l o h = absurd o
onway_after (x ∷ xs) (t ∷ ts) [] b u l o h = onway_base x xs t ts u (omega arith) (subst (λ (c : Option ℤ). Rest (x ∷ xs) [] c (u ∷ [])) o h)
onway_after (x ∷ xs) (t ∷ ts) (v ∷ q) b u l o (inl h) = inl (inl (subst (λ (z : ℤ). IsBefore x z v) (sym o.0) h))
onway_after (x ∷ xs) (t ∷ ts) (v ∷ q) b u l o (inr h) = after_cons x xs t v ts (q ++ u ∷ []) o.0 (onway_after xs ts q b u (omega arith) o.1 h.1)

-- further along the token
pub onway_more : (xs : List Variable) (t q : List ℤ) (b : Option ℤ) (u : ℤ) → length t ≡ length xs → OnWay xs t q b → get_or t (length q) (pos 0) ≡ u → suc (length q) < length xs → OnWay xs t (q ++ u ∷ []) (Some (bound_at xs t (suc (length q))))
onway_more [] t q b u l o e h = absurd o
onway_more (x ∷ xs) [] q b u l o e h = absurd o
onway_more (x ∷ []) (t ∷ ts) [] b u l o e h = absurd (omega arith)
onway_more (x ∷ y ∷ xs) (t ∷ []) [] b u l o e h = absurd (omega arith)
onway_more (x ∷ y ∷ xs) (t ∷ t' ∷ ts) [] b u l o e h = (e, refl)
onway_more (x ∷ xs) (t ∷ ts) (v ∷ q) b u l o e h = (o.0, onway_more xs ts q b u (omega arith) o.1 e (omega arith))

-- off the token at a visit
later_base : (x : Variable) (xs : List Variable) (t : ℤ) (ts : List ℤ) (u : ℤ) (r : List ℤ) → IsBefore x t u → Rest (x ∷ xs) (u ∷ []) None r → Later (x ∷ xs) (t ∷ ts) r
later_base x xs t ts u [] b h = absurd h
later_base x xs t ts u (w ∷ r) b (inl k) = inl (chain x t u w b k)
later_base x xs t ts u (w ∷ r) b (inr k) = inl (subst (IsBefore x t) k.0 b)

-- a value that is not before the bound, and leaves the token, comes after it
past_token : (x : Variable) (xs : List Variable) (t u : ℤ) → (IsBefore x u (token_bound x xs t) → ⊥) → (t ≡ u → 1 ≡ length (x ∷ xs)) → IsBefore x t u
past_token x [] t u n e = past_of x t u n
past_token x (y ∷ ys) t u n e = elim (compare x t u) [
  | inl b ↦ b
  | inr d ↦ elim d [ inl q ↦ absurd (let z : 1 ≡ length (x ∷ y ∷ ys) = e q in omega (arith, z)) | inr b ↦ absurd (n b) ]
]

-- a prefix off the way of the token is in the walk
pub onway_leave : (xs : List Variable) (t q : List ℤ) (b : Option ℤ) (u : ℤ) (r : List ℤ) → OnWay xs t q b → Rest xs q b (q ++ u ∷ []) → (get_or t (length q) (pos 0) ≡ u → suc (length q) ≡ length xs) → Rest xs (q ++ u ∷ []) None r → Later xs t r
onway_leave [] t q b u r o n e h = absurd o
onway_leave (x ∷ xs) [] q b u r o n e h = absurd o
onway_leave (x ∷ xs) (t ∷ ts) [] b u r o n e h = later_base x xs t ts u r (past_token x xs t u (subst (λ (c : Option ℤ). Rest (x ∷ xs) [] c (u ∷ [])) o n) e) h
onway_leave (x ∷ xs) (t ∷ ts) (v ∷ q) b u [] o n e h = absurd h
onway_leave (x ∷ xs) (t ∷ ts) (v ∷ q) b u (w ∷ r) o n e (inl k) = inl (subst (λ (z : ℤ). IsBefore x z w) (sym o.0) k)
onway_leave (x ∷ xs) (t ∷ ts) (v ∷ q) b u (w ∷ r) o (inl n) e (inr k) = absurd (twice x v v n n)
onway_leave (x ∷ xs) (t ∷ ts) (v ∷ q) b u (w ∷ r) o (inr n) e (inr k) = inr (o.0 ∙ k.0, onway_leave xs ts q b u r o.1 n.1 (λ z. let m : suc (suc (length q)) ≡ suc (length xs) = e z in omega (arith, m)) k.1)

-- off the token where a level is closed
pub onway_close : (xs : List Variable) (t q : List ℤ) (v c : ℤ) (b : Option ℤ) (r : List ℤ) → OnWay xs t (q ++ v ∷ []) b → AtNext xs q (λ x. c ≡ after x v) → Rest xs q (Some c) r → Later xs t r
onway_close [] t q v c b r o e h = absurd e
onway_close (x ∷ xs) [] [] v c b r o e h = absurd o
onway_close (x ∷ xs) [] (u ∷ q) v c b r o e h = absurd o
onway_close (x ∷ xs) (t ∷ ts) [] v c b [] o e h = absurd h
onway_close (x ∷ xs) (t ∷ ts) (u ∷ q) v c b [] o e h = absurd h
onway_close (x ∷ xs) (t ∷ ts) [] v c b (w ∷ r) o e h = inl (subst (λ (z : ℤ). IsBefore x z w) (sym o.0) (past_of x v w (λ l. h (subst (IsBefore x w) (sym e) l))))
onway_close (x ∷ xs) (t ∷ ts) (u ∷ q) v c b (w ∷ r) o e (inl h) = inl (subst (λ (z : ℤ). IsBefore x z w) (sym o.0) h)
onway_close (x ∷ xs) (t ∷ ts) (u ∷ q) v c b (w ∷ r) o e (inr h) = inr (o.0 ∙ h.0, onway_close xs ts q v c b r o.1 e h.1)

-- a member after the token is not before its bound
along_base : (x : Variable) (xs : List Variable) (t : ℤ) (ts : List ℤ) (w : ℤ) (r : List ℤ) → length ts ≡ length xs → length r ≤ length xs → IsAfter (x ∷ xs) (t ∷ ts) (w ∷ r) → IsBefore x w (token_bound x xs t) → ⊥
along_base x [] t ts w r l m (inl (inl b)) k = not_before_past x t w b k
along_base x [] t ts w [] l m (inl (inr p)) k = p.1
along_base x [] t ts w (w' ∷ r) l m (inl (inr p)) k = absurd (omega arith)
along_base x [] t ts w r l m (inr h) k = absurd (omega (arith, h.1))
along_base x (y ∷ ys) t ts w r l m (inl (inl b)) k = twice x t w b k
along_base x (y ∷ ys) t ts w r l m (inl (inr p)) k = never x t w p.0 k
along_base x (y ∷ ys) t ts w r l m (inr h) k = never x t w (sym (ap (head_or w) h.0)) k

-- what comes after the token is left from its bound on
pub rest_along : (xs : List Variable) (t q : List ℤ) (c : ℤ) (r : List ℤ) → length t ≡ length xs → length r ≤ length xs → IsAfter xs t r → OnWay xs t q (Some c) → Rest xs q None r → Rest xs q (Some c) r
rest_along [] t q c r l m a o h = absurd o
rest_along (x ∷ xs) [] q c r l m a o h = absurd o
rest_along (x ∷ xs) (t ∷ ts) [] c [] l m a o h = absurd h
rest_along (x ∷ xs) (t ∷ ts) (v ∷ q) c [] l m a o h = absurd h
rest_along (x ∷ xs) (t ∷ ts) [] c (w ∷ r) l m a o h = λ k. along_base x xs t ts w r (omega arith) (omega arith) a (subst (IsBefore x w) (ap value_of o) k)
rest_along (x ∷ xs) (t ∷ ts) (v ∷ q) c (w ∷ r) l m a o (inl h) = inl h
rest_along (x ∷ xs) (t ∷ ts) (v ∷ q) c (w ∷ r) l m a o (inr h) = inr (h.0, rest_along xs ts q c r (omega arith) (omega arith) (after_tail x xs t w ts r (o.0 ∙ h.0) a) o.1 h.1)

-- a prefix is no longer than the variables
pub begins_length : (T : State) (xs : List Variable) (r : List ℤ) → Begins T xs r → length r ≤ length xs
begins_length T xs [] b = omega arith
begins_length T [] (w ∷ r) b = absurd b
begins_length T (x ∷ xs) (w ∷ []) b = omega arith
begins_length T (x ∷ xs) (w ∷ w' ∷ r) b = let l = begins_length T xs (w' ∷ r) b.1 in omega (arith, l)

-- the search sets off on the way of the token
pub onway_start : (xs : List Variable) (t : List ℤ) → length t ≡ length xs → 0 < length xs → OnWay xs t [] (Some (bound_at xs t 0))
onway_start [] t l h = absurd (omega arith)
onway_start (x ∷ xs) [] l h = absurd (omega arith)
onway_start (x ∷ xs) (t ∷ ts) l h = refl

-- the bound, by the number of the variable
pub bound_inner : (xs : List Variable) (t : List ℤ) (m : ℕ) → length t ≡ length xs → suc m < length xs → bound_at xs t m ≡ get_or t m (pos 0)
bound_inner [] t m l h = absurd (omega arith)
bound_inner (x ∷ xs) [] m l h = absurd (omega arith)
bound_inner (x ∷ []) (t ∷ ts) zero l h = absurd (omega arith)
bound_inner (x ∷ y ∷ xs) (t ∷ ts) zero l h = refl
bound_inner (x ∷ xs) (t ∷ ts) (suc m) l h = bound_inner xs ts m (omega arith) (omega arith)

-- past the token's last value
pub bound_last : (xs : List Variable) (t : List ℤ) (m : ℕ) (x : Variable) → length t ≡ length xs → suc m ≡ length xs → bound_at xs t m ≡ after (get_or xs m x) (get_or t m (pos 0))
bound_last [] t m z l h = absurd (omega arith)
bound_last (x ∷ xs) [] m z l h = absurd (omega arith)
bound_last (x ∷ []) (t ∷ ts) zero z l h = refl
bound_last (x ∷ y ∷ xs) (t ∷ ts) zero z l h = absurd (omega arith)
bound_last (x ∷ xs) (t ∷ ts) (suc m) z l h = bound_last xs ts m z (omega arith) (omega arith)

-- ---- the token's part of the invariant

-- what is left is in the walk
pub token_in : (W : Tree) (a : Option (List ℤ)) (along : Bool) (q : List ℤ) (b : Option ℤ) (u : ℤ) → FollowsToken W a along q b → Rest W.variables q b (q ++ u ∷ []) → IfSome a (λ t. IsAfter W.variables t (q ++ u ∷ []))
token_in W None along q b u f h = tt
token_in W (Some t) true q b u f h = onway_after W.variables t q b u f.0 f.1 h
token_in W (Some t) false q b u f h = later_after W.variables t (q ++ u ∷ []) (f.1 (q ++ u ∷ []) h)

-- a search that left the token has left it for good
pub token_off : (W : Tree) (a : Option (List ℤ)) (q p : List ℤ) (b c : Option ℤ) → FollowsToken W a false q b → ((r : List ℤ) → Rest W.variables p c r → Rest W.variables q b r) → FollowsToken W a false p c
token_off W None q p b c f h = f
token_off W (Some t) q p b c f h = (f.0, λ r k. f.1 r (h r k))

-- another value than the token's leaves it
pub token_leave : (W : Tree) (a : Option (List ℤ)) (q : List ℤ) (b : Option ℤ) (u : ℤ) → FollowsToken W a true q b → Rest W.variables q b (q ++ u ∷ []) → ((t : List ℤ) → a ≡ Some t → get_or t (length q) (pos 0) ≡ u → suc (length q) ≡ length W.variables) → FollowsToken W a false (q ++ u ∷ []) None
token_leave W None q b u f h e = refl
token_leave W (Some t) q b u f h e = (f.0, λ r k. onway_leave W.variables t q b u r f.1 h (e t refl) k)

-- so does a level that is closed
pub token_close : (W : Tree) (a : Option (List ℤ)) (along : Bool) (q : List ℤ) (v c : ℤ) (b : Option ℤ) → FollowsToken W a along (q ++ v ∷ []) b → AtNext W.variables q (λ x. c ≡ after x v) → ((r : List ℤ) → Rest W.variables q (Some c) r → Rest W.variables (q ++ v ∷ []) b r) → FollowsToken W a false q (Some c)
token_close W None along q v c b f e h = refl
token_close W (Some t) true q v c b f e h = (f.0, λ r k. onway_close W.variables t q v c b r f.1 e k)
token_close W (Some t) false q v c b f e h = (f.0, λ r k. f.1 r (h r k))

-- the token's own value keeps to it
pub token_stay : (W : Tree) (t q : List ℤ) (b : Option ℤ) (u : ℤ) → FollowsToken W (Some t) true q b → get_or t (length q) (pos 0) ≡ u → suc (length q) < length W.variables → FollowsToken W (Some t) true (q ++ u ∷ []) (Some (bound_at W.variables t (suc (length q))))
token_stay W t q b u f e h = (f.0, onway_more W.variables t q b u f.0 f.1 e h)
