-- A walker that is made.
use Rattle.std.proofs.Common.{◌≡◌, ℕ, suc, ◌+◌, ◌*◌, ◌<◌, ◌≤◌, Bool, true, List, [], ◌∷◌, ◌++◌, length, get_or, refl, sym, ap, ◌∙◌, subst, inl, inr, arith, ℤ, pos, Option, Some, None, eqb, suc-mul}
use Rattle.std.specs.Prelude.{IfSome, ◌||◌}
use Rattle.std.specs.List.{All, list_any}
use Rattle.std.specs.Option.{option_map}
use Rattle.std.proofs.lemmas.Int.{ints}
use Rattle.std.proofs.lemmas.Bool.{false≢true}
use Rattle.std.proofs.lemmas.Bool.Decides.{Decides-eqb, eqb_tells}
use Rattle.std.proofs.lemmas.Map.Made.{IsDistinct-from_AllPairs}
use Rattle.std.proofs.lemmas.Nat.{mul-le}
use Rattle.std.proofs.lemmas.List.{length-map}
use Rattle.std.proofs.lemmas.List.Elements.{All-nil, All-cons, All-head, All-tail}
use Rattle.std.proofs.lemmas.Map.Steps.{length-le_from_distinct_below}
use Rattle.std.proofs.Math.ListN.{length-append}
use Rattle.geo_base.specs.declared.TheConstants.{MAX_DIMS}
use Rattle.geo_conditions.specs.declared.object.TheConstants.{MAX_OBJECTS}
use Rattle.geo_conditions.specs.Reach.{State, IsState, Tuple, TupleIn, Inside, spot, reach}
use Rattle.geo_conditions.specs.Walk.{Variable, PlaceOf, CoordinateOf, object_of, Order, NamesEach, AreOf, value_in, values, variables, variables_of, variables_in, coordinates_from}
use Rattle.geo_conditions.proofs.Points.{inside_self}
use Rattle.geo_conditions.proofs.Orders.{order_are_of}
use Rattle.geo_state.specs.Trail.{HasSmallIntervals, IsSmallEnd}
use Rattle.geo_state.proofs.Shapes.{places_long, place_few}
use Rattle.trail_search.specs.Cursor.{HasDimension, IsValueOf, AreValues}
use Rattle.trail_search.specs.Walker.{Position, IsToken, IsWell}

-- ---- dimensions

-- the coordinates of an object are of the dimensions
coordinates_have : (k o n : ℕ) (down : List Bool) → n + length down ≤ k → All (HasDimension k) (coordinates_from o n down)
coordinates_have k o n [] h = All-nil (HasDimension k)
coordinates_have k o n (b ∷ down) h = All-cons (HasDimension k) (CoordinateOf o n b) (coordinates_from o (suc n) down) (omega arith) (coordinates_have k o (suc n) down (omega arith))

-- a fact of two lists, one after the other
all_append : {X : Type 0} (P : X → Type 0) (xs ys : List X) → All P xs → All P ys → All P (xs ++ ys)
all_append P [] ys h k = k
all_append P (x ∷ xs) ys h k = All-cons P x (xs ++ ys) (All-head P x xs h) (all_append P xs ys (All-tail P x xs h) k)

-- so are those of all objects
variables_have : (k : ℕ) (os : List ℕ) (down : List Bool) → length down ≡ k → All (HasDimension k) (variables os down)
variables_have k [] down h = All-nil (HasDimension k)
variables_have k (o ∷ os) down h =
    all_append (HasDimension k) (variables_of down o) (variables os down)
    (All-cons (HasDimension k) (PlaceOf o) (coordinates_from o 0 down) tt (coordinates_have k o 0 down (omega (arith, h))))
    (variables_have k os down h)

-- so are the variables of an order
pub order_have : (k : ℕ) (S : State) (order : Order) → NamesEach k S order → All (HasDimension k) (variables_in order)
order_have k S order n = variables_have k order.objects order.down n.dimensions

-- ---- how many variables

-- there is one coordinate for each direction
coordinates_count : (o n : ℕ) (down : List Bool) → length (coordinates_from o n down) ≡ length down
coordinates_count o n [] = refl
coordinates_count o n (b ∷ down) = ap suc (coordinates_count o (suc n) down)

-- for each object there is one variable more than there are directions
variables_count : (os : List ℕ) (down : List Bool) → length (variables os down) ≡ length os * suc (length down)
variables_count [] down = omega arith
variables_count (o ∷ os) down =
    let a = length-append (variables_of down o) (variables os down) in
    let b = coordinates_count o 0 down in
    let c = variables_count os down in
    let d = suc-mul (length os) (suc (length down)) in
    a ∙ (let z : suc (length (coordinates_from o 0 down)) + length (variables os down) ≡ suc (length os) * suc (length down) = omega (arith, b, c, d) in z)

-- a number among numbers below n is below n
any_below : (n q : ℕ) (xs : List ℕ) → All (λ o. o < n) xs → list_any (eqb q) xs ≡ true → q < n
any_below n q [] a h = absurd (false≢true h)
any_below n q (x ∷ xs) a h = elim (eqb_tells q x) [
  | inl t ↦ subst (λ (z : ℕ). z < n) (sym t.1) (All-head (λ o. o < n) x xs a)
  | inr t ↦ any_below n q xs (All-tail (λ o. o < n) x xs a) (subst (λ (b : Bool). (b || list_any (eqb q) xs) ≡ true) t.0 h)
]

-- an order names no more objects than there are
objects_few : (k : ℕ) (S : State) (order : Order) → NamesEach k S order → length order.objects ≤ length S
objects_few k S order n = length-le_from_distinct_below order.objects (length S) (IsDistinct-from_AllPairs Decides-eqb order.objects n.once) (λ q h. any_below (length S) q order.objects n.objects h)

-- so there are at most 2,000 variables
pub order_few : (k : ℕ) (S : State) (order : Order) → IsState k S → k ≤ MAX_DIMS → NamesEach k S order → length (variables_in order) ≤ 2000
order_few k S order s h n =
    let a = objects_few k S order n in
    let b : length order.objects * suc (length order.down) ≤ MAX_OBJECTS * suc MAX_DIMS = mul-le (length order.objects) (suc (length order.down)) MAX_OBJECTS (suc MAX_DIMS) (omega (arith, a, s.few)) (omega (arith, h, n.dimensions)) in
    omega (arith, b, variables_count order.objects order.down)

-- ---- the token

-- the values of a tuple inside a small state are small
value_small_in : (k : ℕ) (S : State) (t : Tuple) (x : Variable) → IsState k S → HasSmallIntervals S → TupleIn t S → object_of x < length S → IsSmallEnd (value_in t x)
value_small_in k S t (PlaceOf o) s m i h =
    let p = (i.each o h).place in
    let few = place_few (reach S o).places (spot t o).place p in
    (omega (arith, ints), omega (arith, ints, few, places_long k S o s h))
value_small_in k S t (CoordinateOf o d down) s m i h =
    let b = (i.each o h).origin in
    (omega (arith, ints, b.above d, (m o d).0.0), omega (arith, ints, b.below d, (m o d).1.1))

-- so are those of all variables
values_small : (k : ℕ) (S : State) (t : Tuple) (xs : List Variable) → IsState k S → HasSmallIntervals S → TupleIn t S → AreOf S xs → All IsSmallEnd (values xs t)
values_small k S t [] s m i a = All-nil IsSmallEnd
values_small k S t (x ∷ xs) s m i a = All-cons IsSmallEnd (value_in t x) (values xs t) (value_small_in k S t x s m i a.0) (values_small k S t xs s m i a.1)

-- the values of a tuple inside the first state are a token
pub token_is : (k : ℕ) (S : State) (xs : List Variable) (a : Option Tuple) → IsState k S → HasSmallIntervals S → IfSome a (λ t. TupleIn t S) → AreOf S xs → IsToken xs (option_map (values xs) a)
token_is k S xs None s m i a = tt
token_is k S xs (Some t) s m i a = (length-map xs (value_in t), values_small k S t xs s m i a)

-- ---- the values

-- 0 fits each variable
zero_value : (x : Variable) → IsValueOf x (pos 0)
zero_value (PlaceOf o) = (omega (arith, ints), omega (arith, ints))
zero_value (CoordinateOf o d down) = (omega (arith, ints), omega (arith, ints))

-- so zeros are values
pub zero_values : (xs : List Variable) (vs : List ℤ) → length vs ≡ length xs → All (λ z. z ≡ pos 0) vs → AreValues xs vs
zero_values xs vs l h i x b = subst (IsValueOf (get_or xs i x)) (sym (h i (pos 0) (omega (arith, l, b)))) (zero_value (get_or xs i x))

-- ---- the walker

-- a walker that is made is well
pub started_well : (k : ℕ) (order : Order) (a : Option Tuple) (p : Position) → IsState k p.first → HasSmallIntervals p.first → NamesEach k p.first order → IfSome a (λ t. TupleIn t p.first) → p.variables ≡ variables_in order → p.token ≡ option_map (values (variables_in order)) a → p.trail.state ≡ p.first → p.trail.levels ≡ length p.variables → p.trail.restores ≡ [] → length p.values ≡ length p.variables → All (λ z. z ≡ pos 0) p.values → IsWell k p
started_well k order a p s m n i v t st lv rs vl vz = record {
  objects = subst (AreOf p.first) (sym v) (order_are_of k p.first order n);
  dimensions = subst (All (HasDimension k)) (sym v) (order_have k p.first order n);
  token = subst (λ (z : Option (List ℤ)). IsToken p.variables z) (sym t) (subst (λ (xs : List Variable). IsToken xs (option_map (values (variables_in order)) a)) (sym v) (token_is k p.first (variables_in order) a s m i (order_are_of k p.first order n)));
  room = omega (arith, lv);
  values = vl;
  depth = omega (arith, ap length rs);
  inside = subst (λ (S : State). Inside S p.first) (sym st) (inside_self p.first);
  saved = subst (All (λ S. Inside S p.first)) (sym rs) (All-nil (λ S. Inside S p.first));
  numbers = zero_values p.variables p.values vl vz;
}
