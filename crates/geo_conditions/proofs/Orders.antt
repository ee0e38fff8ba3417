-- The variables of a search order.
use Rattle.std.proofs.Common.{◌≡◌, ℕ, zero, suc, ◌+◌, ◌<◌, ◌≤◌, Bool, List, [], ◌∷◌, ◌++◌, length, refl, sym, ap, ◌∙◌, subst, inl, inr, arith, Contains}
use Rattle.std.specs.List.{All}
use Rattle.std.proofs.lemmas.List.{append-nil, append_assoc}
use Rattle.std.proofs.lemmas.List.Elements.{All-head, All-tail}
use Rattle.geo_conditions.specs.Reach.{State, IsState}
use Rattle.geo_conditions.specs.Walk.{Variable, PlaceOf, CoordinateOf, Order, NamesEach, AreOf, coordinates_from, variables_of, variables, variables_in}
use Rattle.geo_conditions.proofs.Few.{dims_are}
use Rattle.geo_conditions.proofs.Full.{IsAmong, AreAll}

-- ---- all variables are of objects of the state

are_of_append : (S : State) (xs ys : List Variable) → AreOf S xs → AreOf S ys → AreOf S (xs ++ ys)
are_of_append S [] ys a b = b
are_of_append S (x ∷ xs) ys a b = (a.0, are_of_append S xs ys a.1 b)

coordinates_of : (S : State) (o n : ℕ) (down : List Bool) → o < length S → AreOf S (coordinates_from o n down)
coordinates_of S o n [] h = tt
coordinates_of S o n (b ∷ down) h = (h, coordinates_of S o (suc n) down h)

variables_are_of : (S : State) (order : List ℕ) (down : List Bool) → All (λ o. o < length S) order → AreOf S (variables order down)
variables_are_of S [] down h = tt
variables_are_of S (o ∷ order) down h =
    let b : o < length S = All-head (λ u. u < length S) o order h in
    are_of_append S (variables_of down o) (variables order down) (b, coordinates_of S o 0 down b) (variables_are_of S order down (All-tail (λ u. u < length S) o order h))

pub order_are_of : (k : ℕ) (S : State) (order : Order) → NamesEach k S order → AreOf S (variables_in order)
order_are_of k S order n = variables_are_of S order.objects order.down n.objects

-- ---- each variable of the state is there

among_left : (x : Variable) (xs ys : List Variable) → IsAmong x xs → IsAmong x (xs ++ ys)
among_left x [] ys h = absurd h
among_left x (y ∷ xs) ys (inl e) = inl e
among_left x (y ∷ xs) ys (inr h) = inr (among_left x xs ys h)

among_right : (x : Variable) (xs ys : List Variable) → IsAmong x ys → IsAmong x (xs ++ ys)
among_right x [] ys h = h
among_right x (y ∷ xs) ys h = inr (among_right x xs ys h)

coordinate_among : (o n d : ℕ) (down : List Bool) → d < length down → (b : Bool) × IsAmong (CoordinateOf o (n + d) b) (coordinates_from o n down)
coordinate_among o n d [] h = absurd (omega arith)
coordinate_among o n zero (b ∷ down) h = (b, inl (ap (λ (m : ℕ). CoordinateOf o m b) (omega arith)))
coordinate_among o n (suc d) (b ∷ down) h =
    let r = coordinate_among o (suc n) d down (omega arith) in
    let e : suc n + d ≡ n + suc d = omega arith in
    (r.0, inr (subst (λ (m : ℕ). IsAmong (CoordinateOf o m r.0) (coordinates_from o (suc n) down)) e r.1))

-- what is among the variables of a named object is among all
named_among : (x : Variable) (o : ℕ) (order : List ℕ) (down : List Bool) → Contains order o → IsAmong x (variables_of down o) → IsAmong x (variables order down)
named_among x o [] down (k, b, e) h = absurd (omega arith)
named_among x o (u ∷ order) down (zero, b, e) h =
    among_left x (variables_of down u) (variables order down) (subst (λ (v : ℕ). IsAmong x (variables_of down v)) (sym e) h)
named_among x o (u ∷ order) down (suc k, b, e) h =
    among_right x (variables_of down u) (variables order down) (named_among x o order down (k, omega arith, e) h)

pub order_are_all : (k : ℕ) (S : State) (order : Order) → IsState k S → NamesEach k S order → AreAll S (variables_in order)
order_are_all k S order s n = record {
  places = λ o h. named_among (PlaceOf o) o order.objects order.down (n.each o h) (inl refl);
  coordinates = λ o d h b.
      let r = coordinate_among o 0 d order.down (omega (arith, b, dims_are k S o s h, n.dimensions)) in
      let e : 0 + d ≡ d = omega arith in
      (r.0, subst (λ (m : ℕ). IsAmong (CoordinateOf o m r.0) (variables_in order)) e (named_among (CoordinateOf o (0 + d) r.0) o order.objects order.down (n.each o h) (inr r.1)));
}

-- ---- the last variable is a coordinate

last_coordinate : (o n : ℕ) (down : List Bool) → 0 < length down → (ys : List Variable) × (d : ℕ) × (b : Bool) × (coordinates_from o n down ≡ ys ++ CoordinateOf o d b ∷ []) × (d < n + length down)
last_coordinate o n [] h = absurd (omega arith)
last_coordinate o n (b ∷ []) h = ([], n, b, refl, omega arith)
last_coordinate o n (b ∷ c ∷ down) h =
    let r = last_coordinate o (suc n) (c ∷ down) (omega arith) in
    (CoordinateOf o n b ∷ r.0, r.1, r.2, ap (λ (l : List Variable). CoordinateOf o n b ∷ l) r.3, omega (arith, r.4))

pub last_variable : (order : List ℕ) (down : List Bool) → 0 < length order → 0 < length down
    → (ys : List Variable) × (o : ℕ) × (d : ℕ) × (b : Bool) × (variables order down ≡ ys ++ CoordinateOf o d b ∷ []) × (d < length down) × Contains order o
last_variable [] down h k = absurd (omega arith)
last_variable (o ∷ []) down h k =
    let r = last_coordinate o 0 down k in (
      PlaceOf o ∷ r.0,
      o,
      r.1,
      r.2,
      append-nil (variables_of down o) ∙ ap (λ (l : List Variable). PlaceOf o ∷ l) r.3,
      omega (arith, r.4),
      (0, omega arith, refl),
    )
last_variable (o ∷ u ∷ order) down h k =
    let r = last_variable (u ∷ order) down (omega arith) k in (
      variables_of down o ++ r.0,
      r.1,
      r.2,
      r.3,
      ap (λ (l : List Variable). variables_of down o ++ l) r.4 ∙ sym (append_assoc (variables_of down o) r.0 (CoordinateOf r.1 r.2 r.3 ∷ [])),
      r.5,
      (suc r.6.0, omega (arith, r.6.1), r.6.2),
    )

-- ---- each coordinate is of one of the k dimensions

abbrev pub AreIn : ℕ → List Variable → Type 0
AreIn k [] = Unit {0}
AreIn k (PlaceOf o ∷ xs) = AreIn k xs
AreIn k (CoordinateOf o d down ∷ xs) = (d < k) × AreIn k xs

are_in_append : (k : ℕ) (xs ys : List Variable) → AreIn k xs → AreIn k ys → AreIn k (xs ++ ys)
are_in_append k [] ys a b = b
are_in_append k (PlaceOf o ∷ xs) ys a b = are_in_append k xs ys a b
are_in_append k (CoordinateOf o d down ∷ xs) ys a b = (a.0, are_in_append k xs ys a.1 b)

coordinates_in : (k o n : ℕ) (down : List Bool) → n + length down ≤ k → AreIn k (coordinates_from o n down)
coordinates_in k o n [] h = tt
coordinates_in k o n (b ∷ down) h = (omega arith, coordinates_in k o (suc n) down (omega arith))

variables_are_in : (k : ℕ) (order : List ℕ) (down : List Bool) → length down ≤ k → AreIn k (variables order down)
variables_are_in k [] down h = tt
variables_are_in k (o ∷ order) down h = are_in_append k (variables_of down o) (variables order down) (coordinates_in k o 0 down (omega arith)) (variables_are_in k order down h)

pub order_are_in : (k : ℕ) (S : State) (order : Order) → NamesEach k S order → AreIn k (variables_in order)
order_are_in k S order n = variables_are_in k order.objects order.down (omega (arith, n.dimensions))
