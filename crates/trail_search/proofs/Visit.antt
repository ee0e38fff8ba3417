-- The steps of a search: what they leave to visit.
use Rattle.std.proofs.Common.{◌≡◌, suc, ◌<◌, ◌≤◌, true, false, List, [], ◌∷◌, ◌++◌, length, refl, sym, ap, ◌∙◌, subst, inl, inr, ◌⊎◌, arith, ℤ, pos, ◌≤ℤ◌, ◌<ℤ◌, Option, Some, None}
use Rattle.std.proofs.lemmas.Int.{ints, by_lt_z}
use Rattle.geo_conditions.specs.Reach.{State, low, high, Inside, HasNoEmpty}
use Rattle.geo_conditions.specs.Walk.{Variable, PlaceOf, CoordinateOf, object_of, AreOf, IsBefore, Precedes, IsFixed, IsFirstValue, Begins}
use Rattle.trail_search.specs.Cursor.{after, IsFrom, AtNext, Meets, Rest}

-- ---- one variable

-- values of a variable are compared
pub compare : (x : Variable) (v w : ℤ) → IsBefore x v w ⊎ ((v ≡ w) ⊎ IsBefore x w v)
compare (PlaceOf o) v w = by_lt_z {P = (v <ℤ w) ⊎ ((v ≡ w) ⊎ (w <ℤ v))} v w (λ h. inl h) (λ h. inr (by_lt_z {P = (v ≡ w) ⊎ (w <ℤ v)} w v (λ k. inr k) (λ k. inl (omega (arith, ints, h, k)))))
compare (CoordinateOf o d false) v w = by_lt_z {P = (v <ℤ w) ⊎ ((v ≡ w) ⊎ (w <ℤ v))} v w (λ h. inl h) (λ h. inr (by_lt_z {P = (v ≡ w) ⊎ (w <ℤ v)} w v (λ k. inr k) (λ k. inl (omega (arith, ints, h, k)))))
compare (CoordinateOf o d true) v w = by_lt_z {P = (w <ℤ v) ⊎ ((v ≡ w) ⊎ (v <ℤ w))} w v (λ h. inl h) (λ h. inr (by_lt_z {P = (v ≡ w) ⊎ (v <ℤ w)} v w (λ k. inr k) (λ k. inl (omega (arith, ints, h, k)))))

-- what is not before the next number is past it
pub past_of : (x : Variable) (v w : ℤ) → (IsBefore x w (after x v) → ⊥) → IsBefore x v w
past_of (PlaceOf o) v w h = by_lt_z {P = v <ℤ w} v w (λ k. k) (λ k. absurd (h (omega (arith, ints, k))))
past_of (CoordinateOf o d false) v w h = by_lt_z {P = v <ℤ w} v w (λ k. k) (λ k. absurd (h (omega (arith, ints, k))))
past_of (CoordinateOf o d true) v w h = by_lt_z {P = w <ℤ v} w v (λ k. k) (λ k. absurd (h (omega (arith, ints, k))))

-- no value lies between one and the next
pub not_before_past : (x : Variable) (v w : ℤ) → IsBefore x v w → IsBefore x w (after x v) → ⊥
not_before_past (PlaceOf o) v w h k = absurd (omega (arith, ints, h, k))
not_before_past (CoordinateOf o d false) v w h k = absurd (omega (arith, ints, h, k))
not_before_past (CoordinateOf o d true) v w h k = absurd (omega (arith, ints, h, k))

-- a value not before one that comes before a third
pub before_trans : (x : Variable) (u v w : ℤ) → (IsBefore x v u → ⊥) → IsBefore x v w → IsBefore x u w
before_trans x u v w h k = elim (compare x u v) [
  | inl b ↦ chain x u v w b k
  | inr e ↦ elim e [ inl q ↦ subst (λ (z : ℤ). IsBefore x z w) (sym q) k | inr b ↦ absurd (h b) ]
] where
  chain : (x : Variable) (u v w : ℤ) → IsBefore x u v → IsBefore x v w → IsBefore x u w
  chain (PlaceOf o) u v w h k = omega (arith, ints, h, k)
  chain (CoordinateOf o d false) u v w h k = omega (arith, ints, h, k)
  chain (CoordinateOf o d true) u v w h k = omega (arith, ints, h, k)

-- a variable whose first value is not before a bound has none before it
pub first_from : (T : State) (x : Variable) (v u : ℤ) → IsFirstValue T x v → (IsBefore x v u → ⊥) → IsFrom T x u
first_from T (PlaceOf o) v u f n = λ s h. let l : f.0 ≤ s = f.3 s h in
    by_lt_z {P = u ≤ℤ pos s} v u (λ b. absurd (n b)) (λ b. omega (arith, ints, f.1, l, b))
first_from T (CoordinateOf o d false) v u f n = by_lt_z {P = u ≤ℤ low T o d} v u (λ b. absurd (n b)) (λ b. omega (arith, ints, f, b))
first_from T (CoordinateOf o d true) v u f n = by_lt_z {P = high T o d ≤ℤ u} u v (λ b. absurd (n b)) (λ b. omega (arith, ints, f, b))

-- the first value is not before the bound
pub from_first : (T : State) (x : Variable) (v u : ℤ) → IsFrom T x v → IsFirstValue T x u → IsBefore x u v → ⊥
from_first T (PlaceOf o) v u h f b = let l : v ≤ℤ pos f.0 = h f.0 f.2 in absurd (omega (arith, ints, f.1, l, b))
from_first T (CoordinateOf o d false) v u h f b = absurd (omega (arith, ints, h, f, b))
from_first T (CoordinateOf o d true) v u h f b = absurd (omega (arith, ints, h, f, b))

-- a fixed value that is not before the bound
pub fixed_from : (T : State) (x : Variable) (v u : ℤ) → IsFixed T x v → (IsBefore x v u → ⊥) → IsFrom T x u
fixed_from T (PlaceOf o) v u f n = λ s h. let e : pos s ≡ v = f s h in
    by_lt_z {P = u ≤ℤ pos s} v u (λ b. absurd (n b)) (λ b. omega (arith, ints, e, b))
fixed_from T (CoordinateOf o d false) v u f n = by_lt_z {P = u ≤ℤ low T o d} v u (λ b. absurd (n b)) (λ b. omega (arith, ints, f.0, b))
fixed_from T (CoordinateOf o d true) v u f n = by_lt_z {P = high T o d ≤ℤ u} u v (λ b. absurd (n b)) (λ b. omega (arith, ints, f.1, b))

-- a bound that another one comes after
pub from_looser : (T : State) (x : Variable) (v u : ℤ) → IsFrom T x v → (IsBefore x v u → ⊥) → IsFrom T x u
from_looser T (PlaceOf o) v u h n = λ s t. let l : v ≤ℤ pos s = h s t in
    by_lt_z {P = u ≤ℤ pos s} v u (λ b. absurd (n b)) (λ b. omega (arith, ints, l, b))
from_looser T (CoordinateOf o d false) v u h n = by_lt_z {P = u ≤ℤ low T o d} v u (λ b. absurd (n b)) (λ b. omega (arith, ints, h, b))
from_looser T (CoordinateOf o d true) v u h n = by_lt_z {P = high T o d ≤ℤ u} u v (λ b. absurd (n b)) (λ b. omega (arith, ints, h, b))

-- a state inside has no value before the bound either
pub from_inside : (T G : State) (x : Variable) (v : ℤ) → Inside T G → IsFrom G x v → IsFrom T x v
from_inside T G (PlaceOf o) v i h = λ s t. h s ((i.each o).places s t)
from_inside T G (CoordinateOf o d false) v i h = omega (arith, ints, h, (i.each o).lows d)
from_inside T G (CoordinateOf o d true) v i h = omega (arith, ints, h, (i.each o).highs d)

-- what is fixed stays so in a state inside
pub fixed_inside : (T S : State) (x : Variable) (v : ℤ) → HasNoEmpty T → object_of x < length T → Inside T S → IsFixed S x v → IsFixed T x v
fixed_inside T S (PlaceOf o) v n h i f = λ s t. f s ((i.each o).places s t)
fixed_inside T S (CoordinateOf o d down) v n h i f =
    let r = (n o h).ranges d in
    (omega (arith, ints, f.0, f.1, r, (i.each o).lows d, (i.each o).highs d), omega (arith, ints, f.0, f.1, r, (i.each o).lows d, (i.each o).highs d))

-- what is fixed is the first value
pub fixed_first : (T : State) (x : Variable) (v : ℤ) → HasNoEmpty T → object_of x < length T → IsFixed T x v → IsFirstValue T x v
fixed_first T (PlaceOf o) v n h f =
    let s = (n o h).place.0 in
    let there = (n o h).place.1 in
    (s, f s there, there, λ u k. let e : pos u ≡ pos s = f u k ∙ sym (f s there) in omega (arith, ints, e))
fixed_first T (CoordinateOf o d false) v n h f = f.0
fixed_first T (CoordinateOf o d true) v n h f = f.1

-- the first value of a state inside does not come before that of the state
pub first_not_before : (T G : State) (x : Variable) (v u : ℤ) → Inside T G → IsFirstValue T x v → IsFirstValue G x u → IsBefore x v u → ⊥
first_not_before T G (PlaceOf o) v u i f g b =
    let l : g.0 ≤ f.0 = g.3 f.0 ((i.each o).places f.0 f.2) in
    absurd (omega (arith, ints, f.1, g.1, l, b))
first_not_before T G (CoordinateOf o d false) v u i f g b = absurd (omega (arith, ints, f, g, b, (i.each o).lows d))
first_not_before T G (CoordinateOf o d true) v u i f g b = absurd (omega (arith, ints, f, g, b, (i.each o).highs d))

-- the variables are of the objects of a state of the same length
pub are_of : (S T : State) (xs : List Variable) → length T ≡ length S → AreOf S xs → AreOf T xs
are_of S T [] h a = tt
are_of S T (x ∷ xs) h a = (omega (arith, h, a.0), are_of S T xs h a.1)

-- ---- demands

-- in a state that begins a prefix, its first value is that of the first variable
pub begins_first : (T : State) (x : Variable) (xs : List Variable) (w : ℤ) (r : List ℤ) → HasNoEmpty T → object_of x < length T → Begins T (x ∷ xs) (w ∷ r) → IsFirstValue T x w
begins_first T x xs w [] n h b = b
begins_first T x xs w (w' ∷ r) n h b = fixed_first T x w n h b.0

-- a state that begins with a prefix that is left meets the bound
pub begins_from : (T : State) (x : Variable) (xs : List Variable) (w : ℤ) (r : List ℤ) (b : Option ℤ) → HasNoEmpty T → object_of x < length T → Begins T (x ∷ xs) (w ∷ r) → Rest (x ∷ xs) [] b (w ∷ r) → Meets (x ∷ xs) [] b T
begins_from T x xs w r None n h g k = tt
begins_from T x xs w r (Some v) n h g k = first_from T x w v (begins_first T x xs w r n h g) k

-- a state inside meets what the state meets
pub meets_inside : (T G : State) (xs : List Variable) (q : List ℤ) (b : Option ℤ) → HasNoEmpty T → AreOf T xs → Inside T G → Meets xs q b G → Meets xs q b T
meets_inside T G [] [] b n a i m = tt
meets_inside T G [] (v ∷ q) b n a i m = m
meets_inside T G (x ∷ xs) [] None n a i m = tt
meets_inside T G (x ∷ xs) [] (Some v) n a i m = from_inside T G x v i m
meets_inside T G (x ∷ xs) (v ∷ q) b n a i m = (fixed_inside T G x v n a.0 i m.0, meets_inside T G xs q b n a.1 i m.1)

-- a state that meets a bound meets the path without it
pub meets_none : (T : State) (xs : List Variable) (q : List ℤ) (b : Option ℤ) → Meets xs q b T → Meets xs q None T
meets_none T [] [] b m = tt
meets_none T [] (v ∷ q) b m = m
meets_none T (x ∷ xs) [] b m = tt
meets_none T (x ∷ xs) (v ∷ q) b m = (m.0, meets_none T xs q b m.1)

-- one value more
pub meets_push : (T : State) (xs : List Variable) (q : List ℤ) (b : Option ℤ) (u : ℤ) → Meets xs q b T → AtNext xs q (λ x. IsFixed T x u) → Meets xs (q ++ u ∷ []) None T
meets_push T [] q b u m f = absurd f
meets_push T (x ∷ []) [] b u m f = (f, tt)
meets_push T (x ∷ y ∷ xs) [] b u m f = (f, tt)
meets_push T (x ∷ xs) (v ∷ q) b u m f = (m.0, meets_push T xs q b u m.1 f)

-- and one less: the next variable had no value before the bound, since its first one in G is not
pub meets_pop : (T G : State) (xs : List Variable) (q : List ℤ) (b c : Option ℤ) (u : ℤ) → Meets xs q b G → AtNext xs q (λ x. IsFirstValue G x u) → Meets xs (q ++ u ∷ []) c T → Meets xs q b T × AtNext xs q (λ x. IsFixed T x u)
meets_pop T G [] q b c u g f m = absurd f
meets_pop T G (x ∷ xs) [] None c u g f m = (tt, m.0)
meets_pop T G (x ∷ xs) [] (Some v) c u g f m = (fixed_from T x u v m.0 (from_first G x v u g f), m.0)
meets_pop T G (x ∷ xs) (v ∷ q) b c u g f m = let r = meets_pop T G xs q b c u g.1 f m.1 in ((m.0, r.0), r.1)

-- a later bound
pub meets_bound : (T : State) (xs : List Variable) (q : List ℤ) (b : Option ℤ) (v : ℤ) → Meets xs q b T → AtNext xs q (λ x. IsFrom T x v) → Meets xs q (Some v) T
meets_bound T [] q b v m f = absurd f
meets_bound T (x ∷ xs) [] b v m f = f
meets_bound T (x ∷ xs) (u ∷ q) b v m f = (m.0, meets_bound T xs q b v m.1 f)

-- a state past the first value meets the earlier bound
pub meets_looser : (T G : State) (xs : List Variable) (q : List ℤ) (b : Option ℤ) (u v : ℤ) → Meets xs q b G → AtNext xs q (λ x. IsFirstValue G x u × (v ≡ after x u)) → Meets xs q (Some v) T → Meets xs q b T × AtNext xs q (λ x. IsFrom T x v)
meets_looser T G [] q b u v g f m = absurd f
meets_looser T G (x ∷ xs) [] None u v g f m = (tt, m)
meets_looser T G (x ∷ xs) [] (Some c) u v g f m = (from_looser T x v c m (λ k. from_first G x c u g f.0 (before_trans x u v c (λ l. not_past x u v f.1 l) k)), m)
  where
    not_past : (x : Variable) (u v : ℤ) → v ≡ after x u → IsBefore x v u → ⊥
    not_past (PlaceOf o) u v e l = absurd (omega (arith, ints, e, l))
    not_past (CoordinateOf o d false) u v e l = absurd (omega (arith, ints, e, l))
    not_past (CoordinateOf o d true) u v e l = absurd (omega (arith, ints, e, l))
meets_looser T G (x ∷ xs) (w ∷ q) b u v g f m = let r = meets_looser T G xs q b u v g.1 f m.1 in ((m.0, r.0), r.1)

-- the bound alone
pub meets_some : (T : State) (xs : List Variable) (q : List ℤ) (v : ℤ) → length q < length xs → Meets xs q (Some v) T → Meets xs q None T × AtNext xs q (λ x. IsFrom T x v)
meets_some T [] q v h m = absurd (omega arith)
meets_some T (x ∷ xs) [] v h m = (tt, m)
meets_some T (x ∷ xs) (w ∷ q) v h m = let r = meets_some T xs q v (omega arith) m.1 in ((m.0, r.0), r.1)

-- the first value of the next variable makes a member
pub begins_push : (G : State) (xs : List Variable) (q : List ℤ) (b : Option ℤ) (u : ℤ) → Meets xs q b G → AtNext xs q (λ x. IsFirstValue G x u) → Begins G xs (q ++ u ∷ [])
begins_push G [] q b u m f = absurd f
begins_push G (x ∷ xs) [] b u m f = f
begins_push G (x ∷ xs) (v ∷ []) b u m f = (m.0, begins_push G xs [] b u m.1 f)
begins_push G (x ∷ xs) (v ∷ w ∷ q) b u m f = (m.0, begins_push G xs (w ∷ q) b u m.1 f)

-- ---- what is left to visit

-- the path with the first value is left to visit
pub rest_here : (G : State) (xs : List Variable) (q : List ℤ) (b : Option ℤ) (u : ℤ) → Meets xs q b G → AtNext xs q (λ x. IsFirstValue G x u) → Rest xs q b (q ++ u ∷ [])
rest_here G [] q b u m f = absurd f
rest_here G (x ∷ xs) [] None u m f = tt
rest_here G (x ∷ xs) [] (Some v) u m f = from_first G x v u m f
rest_here G (x ∷ xs) (v ∷ q) b u m f = inr (refl, rest_here G xs q b u m.1 f)

-- what is left below it was left before
pub rest_visited : (G : State) (xs : List Variable) (q : List ℤ) (b : Option ℤ) (u : ℤ) (r : List ℤ) → Meets xs q b G → AtNext xs q (λ x. IsFirstValue G x u) → Rest xs (q ++ u ∷ []) None r → Rest xs q b r
rest_visited G [] q b u r m f h = absurd f
rest_visited G (x ∷ xs) [] b u [] m f h = absurd h
rest_visited G (x ∷ xs) (v ∷ q) b u [] m f h = absurd h
rest_visited G (x ∷ xs) [] None u (w ∷ r) m f h = tt
rest_visited G (x ∷ xs) [] (Some v) u (w ∷ r) m f (inl k) = λ l. from_first G x v u m f (before_trans x u w v (λ z. twice x u w k z) l)
  where
    twice : (x : Variable) (u w : ℤ) → IsBefore x u w → IsBefore x w u → ⊥
    twice (PlaceOf o) u w k l = absurd (omega (arith, ints, k, l))
    twice (CoordinateOf o d false) u w k l = absurd (omega (arith, ints, k, l))
    twice (CoordinateOf o d true) u w k l = absurd (omega (arith, ints, k, l))
rest_visited G (x ∷ xs) [] (Some v) u (w ∷ r) m f (inr k) = λ l. from_first G x v u m f (subst (λ (z : ℤ). IsBefore x z v) (sym k.0) l)
rest_visited G (x ∷ xs) (v ∷ q) b u (w ∷ r) m f (inl k) = inl k
rest_visited G (x ∷ xs) (v ∷ q) b u (w ∷ r) m f (inr k) = inr (k.0, rest_visited G xs q b u r m.1 f k.1)

-- a prefix comes before what is left below it
pub rest_precedes : (xs : List Variable) (q r : List ℤ) → Rest xs q None r → Precedes xs q r
rest_precedes [] q r h = absurd h
rest_precedes (x ∷ xs) q [] h = absurd h
rest_precedes (x ∷ xs) [] (w ∷ r) h = tt
rest_precedes (x ∷ xs) (v ∷ q) (w ∷ r) (inl k) = inl k
rest_precedes (x ∷ xs) (v ∷ q) (w ∷ r) (inr k) = inr (k.0, rest_precedes xs q r k.1)

-- what is left of a member's walk after a visit
pub visit_cases : (T G : State) (xs : List Variable) (q : List ℤ) (b : Option ℤ) (u : ℤ) (r : List ℤ) → HasNoEmpty T → AreOf T xs → Begins T xs r → Rest xs q b r → AtNext xs q (λ x. IsFirstValue G x u) → (Meets xs q b T → Inside T G) → (r ≡ q ++ u ∷ []) ⊎ Rest xs (q ++ u ∷ []) None r
visit_cases T G [] q b u r n a g h f k = absurd f
visit_cases T G (x ∷ xs) [] b u [] n a g h f k = absurd h
visit_cases T G (x ∷ xs) (v ∷ q) b u [] n a g h f k = absurd h
visit_cases T G (x ∷ xs) [] b u (w ∷ r) n a g h f k =
    elim (compare x w u) [
      | inl c ↦ absurd (first_not_before T G x w u (k (begins_from T x xs w r b n a.0 g h)) (begins_first T x xs w r n a.0 g) f c)
      | inr d ↦ elim d [ inl e ↦ same T x xs u w r e g | inr c ↦ inr (inl c) ]
    ]
  where
    same : (T : State) (x : Variable) (xs : List Variable) (u w : ℤ) (r : List ℤ) → w ≡ u → Begins T (x ∷ xs) (w ∷ r) → ((w ∷ r) ≡ u ∷ []) ⊎ Rest (x ∷ xs) (u ∷ []) None (w ∷ r)
    same T x xs u w [] e g = inl (ap (λ (z : ℤ). z ∷ []) e)
    same T x [] u w (w' ∷ r) e g = absurd g.1
    same T x (y ∷ xs) u w (w' ∷ r) e g = inr (inr (sym e, tt))
visit_cases T G (x ∷ xs) (v ∷ q) b u (w ∷ r) n a g (inl h) f k = inr (inl h)
visit_cases T G (x ∷ xs) (v ∷ q) b u (w ∷ []) n a g (inr h) f k = absurd (no_rest xs q b h.1)
  where
    no_rest : (xs : List Variable) (q : List ℤ) (b : Option ℤ) → Rest xs q b [] → ⊥
    no_rest [] q b h = h
    no_rest (x ∷ xs) q b h = h
visit_cases T G (x ∷ xs) (v ∷ q) b u (w ∷ w' ∷ r) n a g (inr h) f k =
    let l : IsFixed T x v = subst (IsFixed T x) (sym h.0) g.0 in
    elim (visit_cases T G xs q b u (w' ∷ r) n a.1 g.1 h.1 f (λ m. k (l, m))) [
      | inl e ↦ inl (ap (λ (z : ℤ). z ∷ w' ∷ r) (sym h.0) ∙ ap (λ (s : List ℤ). v ∷ s) e)
      | inr c ↦ inr (inr (h.0, c))
    ]

-- what is left of a member's walk where a level is closed
pub close_cases : (T : State) (xs : List Variable) (q : List ℤ) (v c : ℤ) (b : Option ℤ) (r : List ℤ) → HasNoEmpty T → AreOf T xs → Begins T xs r → AtNext xs q (λ x. c ≡ after x v) → Rest xs (q ++ v ∷ []) b r → Rest xs q (Some c) r ⊎ Meets xs (q ++ v ∷ []) b T
close_cases T [] q v c b r n a g e h = absurd e
close_cases T (x ∷ xs) [] v c b [] n a g e h = absurd h
close_cases T (x ∷ xs) (u ∷ q) v c b [] n a g e h = absurd h
close_cases T (x ∷ xs) [] v c b (w ∷ r) n a g e (inl h) = inl (λ l. not_before_past x v w h (subst (IsBefore x w) e l))
close_cases T (x ∷ []) [] v c b (w ∷ r) n a g e (inr h) = absurd h.1
close_cases T (x ∷ y ∷ xs) [] v c b (w ∷ []) n a g e (inr h) = absurd h.1
close_cases T (x ∷ y ∷ xs) [] v c b (w ∷ w' ∷ r) n a g e (inr h) = inr (subst (IsFixed T x) (sym h.0) g.0, begins_from T y xs w' r b n a.1.0 g.1 h.1)
close_cases T (x ∷ xs) (u ∷ q) v c b (w ∷ r) n a g e (inl h) = inl (inl h)
close_cases T (x ∷ []) (u ∷ q) v c b (w ∷ r) n a g e (inr h) = absurd h.1
close_cases T (x ∷ y ∷ xs) (u ∷ q) v c b (w ∷ []) n a g e (inr h) = absurd h.1
close_cases T (x ∷ y ∷ xs) (u ∷ q) v c b (w ∷ w' ∷ r) n a g e (inr h) = elim (close_cases T (y ∷ xs) q v c b (w' ∷ r) n a.1 g.1 e h.1) [
  | inl k ↦ inl (inr (h.0, k))
  | inr m ↦ inr (subst (IsFixed T x) (sym h.0) g.0, m)
]

-- a full prefix has no extensions
pub close_full : (xs : List Variable) (q : List ℤ) (v c : ℤ) (b : Option ℤ) (r : List ℤ) → length xs ≡ suc (length q) → AtNext xs q (λ x. c ≡ after x v) → Rest xs (q ++ v ∷ []) b r → Rest xs q (Some c) r
close_full [] q v c b r l e h = absurd e
close_full (x ∷ xs) [] v c b [] l e h = absurd h
close_full (x ∷ xs) (u ∷ q) v c b [] l e h = absurd h
close_full (x ∷ []) [] v c b (w ∷ r) l e (inl h) = λ k. not_before_past x v w h (subst (IsBefore x w) e k)
close_full (x ∷ []) [] v c b (w ∷ r) l e (inr h) = absurd h.1
close_full (x ∷ y ∷ xs) [] v c b (w ∷ r) l e h = absurd (omega arith)
close_full (x ∷ xs) (u ∷ q) v c b (w ∷ r) l e (inl h) = inl h
close_full (x ∷ xs) (u ∷ q) v c b (w ∷ r) l e (inr h) = inr (h.0, close_full xs q v c b r (omega arith) e h.1)

-- what is left past a value was left above it
pub rest_closed : (xs : List Variable) (q : List ℤ) (v c : ℤ) (b : Option ℤ) (r : List ℤ) → AtNext xs q (λ x. c ≡ after x v) → Rest xs q (Some c) r → Rest xs (q ++ v ∷ []) b r
rest_closed [] q v c b r e h = absurd e
rest_closed (x ∷ xs) [] v c b [] e h = absurd h
rest_closed (x ∷ xs) (u ∷ q) v c b [] e h = absurd h
rest_closed (x ∷ xs) [] v c b (w ∷ r) e h = inl (past_of x v w (λ l. h (subst (IsBefore x w) (sym e) l)))
rest_closed (x ∷ xs) (u ∷ q) v c b (w ∷ r) e (inl h) = inl h
rest_closed (x ∷ xs) (u ∷ q) v c b (w ∷ r) e (inr h) = inr (h.0, rest_closed xs q v c b r e h.1)
