-- A full member of the walk is a layout.
use Rattle.std.proofs.Common.{◌≡◌, ℕ, zero, suc, ◌<◌, Bool, true, false, List, [], ◌∷◌, ◌++◌, length, map, get_or, refl, sym, ap, ◌∙◌, subst, inl, inr, ◌⊎◌, arith, ℤ, pos}
use Rattle.std.proofs.lemmas.Int.{ints}
use Rattle.std.proofs.lemmas.Bool.{cases_lt, false≢true}
use Rattle.std.proofs.lemmas.List.{get_or_past}
use Rattle.std.specs.List.{All}
use Rattle.geo_conditions.specs.declared.cond.Cond.{Cond}
use Rattle.geo_base.specs.Boxes.{coordinate}
use Rattle.geo_conditions.specs.Reach.{State, Reach, Tuple, Spot, spot, reach, nowhere, low, high, dims, place_in, just, just_this, just_spot, only, with_at, Within, Inside, HasNoEmpty, SpotIn, TupleIn}
use Rattle.geo_conditions.proofs.Monotone.{le_trans}
use Rattle.geo_conditions.specs.Conditions.{holds, FitsIn}
use Rattle.geo_conditions.specs.Supported.{IsSupported, Supports}
use Rattle.geo_conditions.specs.Walk.{Variable, PlaceOf, CoordinateOf, object_of, value_in, IsFixed, IsFirstValue, Begins, AreOf}
use Rattle.geo_conditions.proofs.Sets.{only_self}
use Rattle.geo_conditions.proofs.Points.{at_only, reach_same, inside_trans, put_inside, put_not_empty, point_within, point_not_empty, place_from_1, unrefuted_wider, within_self}
use Rattle.geo_conditions.proofs.Tuples.{reach_just, length_just, possible_just}
use Rattle.geo_conditions.proofs.Walks.{fixed_inside, are_of_same, same_pos}
use Rattle.geo_conditions.proofs.Steps.{AreFixed, begins_out}
use Rattle.geo_conditions.proofs.Greatest.{IsEven, even_kept}

abbrev pub IsAmong : Variable → List Variable → Type 0
IsAmong x [] = ⊥
IsAmong x (y ∷ ys) = (y ≡ x) ⊎ IsAmong x ys

-- the variables are all those of S
pub record AreAll (S : State) (xs : List Variable) : Type 0 where
  pub places : (o : ℕ) → o < length S → IsAmong (PlaceOf o) xs
  pub coordinates : (o d : ℕ) → o < length S → d < dims S o → (b : Bool) × IsAmong (CoordinateOf o d b) xs

abbrev pub first_place : List Bool → ℕ
first_place [] = 0
first_place (true ∷ bs) = 1
first_place (false ∷ bs) = suc (first_place bs)

pub first_there : (bs : List Bool) (s : ℕ) → place_in bs s ≡ true → place_in bs (first_place bs) ≡ true
first_there bs zero h = absurd (false≢true h)
first_there [] (suc s) h = absurd (false≢true h)
first_there (true ∷ bs) (suc s) h = refl
first_there (false ∷ bs) (suc zero) h = absurd (false≢true h)
first_there (false ∷ bs) (suc (suc s)) h = next bs (first_place bs) (first_there bs (suc s) h)
  where
    next : (bs : List Bool) (k : ℕ) → place_in bs k ≡ true → place_in (false ∷ bs) (suc k) ≡ true
    next bs zero h = absurd (false≢true h)
    next bs (suc k) h = h

abbrev pub spot_of : Reach → Spot
spot_of r = record { place = first_place r.places; origin = r.region.lo }

-- the tuple of the first places and the low ends
abbrev pub tuple_of : State → Tuple
tuple_of S = map spot_of S

spot_tuple : (S : State) (o : ℕ) → o < length S → spot (tuple_of S) o ≡ spot_of (reach S o)
spot_tuple [] o h = absurd (omega arith)
spot_tuple (r ∷ S) zero h = refl
spot_tuple (r ∷ S) (suc o) h = spot_tuple S o (omega arith)

length_tuple : (S : State) → length (tuple_of S) ≡ length S
length_tuple [] = refl
length_tuple (r ∷ S) = ap suc (length_tuple S)

fixed_of : (T : State) (xs : List Variable) (q : List ℤ) (x : Variable) → AreFixed T xs q → IsAmong x xs → (v : ℤ) × IsFixed T x v
fixed_of T [] q x f m = absurd m
fixed_of T (y ∷ xs) [] x f m = absurd f
fixed_of T (y ∷ xs) (v ∷ q) x f (inl e) = (v, subst (λ (z : Variable). IsFixed T z v) e f.0)
fixed_of T (y ∷ xs) (v ∷ q) x f (inr m) = fixed_of T xs q x f.1 m

-- a state in which each variable is fixed is that of its tuple
single_inside : (T : State) (xs : List Variable) (q : List ℤ) → HasNoEmpty T → IsEven T → AreAll T xs → AreFixed T xs q → Inside T (just_this (tuple_of T))
single_inside T xs q n e a f = record {
  objects = sym (length_just (tuple_of T) ∙ length_tuple T);
  each = λ o. elim (cases_lt o (length T)) [
    | inr b ↦ let z : reach T o ≡ nowhere = get_or_past T o nowhere b in
        let y : reach (just_this (tuple_of T)) o ≡ nowhere = get_or_past (just_this (tuple_of T)) o nowhere (omega (arith, length_just (tuple_of T), length_tuple T)) in
        subst (λ (r : Reach). Within r (reach (just_this (tuple_of T)) o)) (sym z) (subst (λ (r : Reach). Within nowhere r) (sym y) (within_self nowhere))
    | inl b ↦ let y : reach (just_this (tuple_of T)) o ≡ just_spot (spot_of (reach T o)) = reach_just (tuple_of T) o ∙ ap just_spot (spot_tuple T o b) in
        subst (λ (r : Reach). Within (reach T o) r) (sym y) (record {
          same_lo = refl;
          same_hi = sym (e o);
          places = λ s h. let p = fixed_of T xs q (PlaceOf o) f (a.places o b) in
              let w : first_place (reach T o).places ≡ s = same_pos (first_place (reach T o).places) s (p.1 (first_place (reach T o).places) (first_there (reach T o).places s h) ∙ sym (p.1 s h)) in
              subst (λ (k : ℕ). place_in (only k) s ≡ true) (sym w) (only_self s (place_from_1 (reach T o).places s h));
          lows = λ d. omega (arith, ints);
          highs = λ d. elim (cases_lt d (dims T o)) [
            | inl k ↦ let p = a.coordinates o d b k in let c = fixed_of T xs q (CoordinateOf o d p.0) f p.1 in omega (arith, ints, c.1.0, c.1.1)
            | inr k ↦ let z : low T o d ≡ pos 0 = get_or_past (reach T o).region.lo d (pos 0) k in
                let y : high T o d ≡ pos 0 = get_or_past (reach T o).region.hi d (pos 0) (omega (arith, e o)) in omega (arith, ints)
          ];
        })
  ];
}

still_fixed : (T S : State) (xs : List Variable) (q : List ℤ) → HasNoEmpty T → AreOf T xs → Inside T S → AreFixed S xs q → AreFixed T xs q
still_fixed T S [] [] n a i f = tt
still_fixed T S [] (v ∷ q) n a i f = absurd f
still_fixed T S (x ∷ xs) [] n a i f = absurd f
still_fixed T S (x ∷ xs) (v ∷ q) n a i f = (fixed_inside T S x v n a.0 i f.0, still_fixed T S xs q n a.1 i f.1)

fixed_last : (T : State) (xs : List Variable) (x : Variable) (q : List ℤ) (v : ℤ) → AreFixed T xs q → IsFixed T x v → AreFixed T (xs ++ x ∷ []) (q ++ v ∷ [])
fixed_last T [] x [] v f g = (g, tt)
fixed_last T [] x (u ∷ q) v f g = absurd f
fixed_last T (y ∷ xs) x [] v f g = absurd f
fixed_last T (y ∷ xs) x (u ∷ q) v f g = (f.0, fixed_last T xs x q v f.1 g)

-- the end of the last variable, a coordinate, has a point; there the state has one tuple
last_point : (cs : List Cond) (T : State) (o d : ℕ) (down : Bool) (v : ℤ) → IsSupported cs T → o < length T → d < dims T o → IsFirstValue T (CoordinateOf o d down) v → (s : ℕ) × (p : List ℤ) × Supports cs T o s p × (coordinate p d ≡ v)
last_point cs T o d false v s h k f = let y = s.lows o d h k in (y.0, y.1, y.2, y.3 ∙ f)
last_point cs T o d true v s h k f = let y = s.highs o d h k in (y.0, y.1, y.2, y.3 ∙ f)

all_of : (S T : State) (xs : List Variable) → Inside T S → AreAll S xs → AreAll T xs
all_of S T xs i a = record {
  places = λ o h. a.places o (omega (arith, i.objects));
  coordinates = λ o d h k. a.coordinates o d (omega (arith, i.objects)) (subst (λ (n : ℕ). d < n) (i.each o).same_lo k);
}

-- the tuple of a state without an empty set lies wherever the state does
tuple_in : (N S : State) → HasNoEmpty N → IsEven N → Inside N S → TupleIn (tuple_of N) S
tuple_in N S n e i = record {
  objects = length_tuple N ∙ i.objects;
  each = λ o h. let b : o < length N = omega (arith, i.objects) in
      let y = n o b in
      let w = i.each o in
      subst (λ (p : Spot). SpotIn p (reach S o)) (sym (spot_tuple N o b)) (record {
        place = w.places (first_place (reach N o).places) (first_there (reach N o).places y.place.0 y.place.1);
        origin = record {
          same_lo = w.same_lo;
          same_hi = e o ∙ w.same_hi;
          above = w.lows;
          below = λ d. le_trans _ _ _ (y.ranges d) (w.highs d);
        };
      });
}

-- the values of the tuple are those at which the variables are fixed
tuple_values : (N : State) (xs : List Variable) (q : List ℤ) → HasNoEmpty N → AreOf N xs → AreFixed N xs q → map (value_in (tuple_of N)) xs ≡ q
tuple_values N [] [] n a f = refl
tuple_values N [] (v ∷ q) n a f = absurd f
tuple_values N (x ∷ xs) [] n a f = absurd f
tuple_values N (x ∷ xs) (v ∷ q) n a f = ap (λ (z : ℤ). z ∷ map (value_in (tuple_of N)) xs) (one N x v n a.0 f.0) ∙ ap (λ (r : List ℤ). v ∷ r) (tuple_values N xs q n a.1 f.1)
  where
    one : (N : State) (x : Variable) (v : ℤ) → HasNoEmpty N → object_of x < length N → IsFixed N x v → value_in (tuple_of N) x ≡ v
    one N (PlaceOf o) v n b f = ap (λ (p : Spot). pos p.place) (spot_tuple N o b) ∙ f (first_place (reach N o).places) (first_there (reach N o).places (n o b).place.0 (n o b).place.1)
    one N (CoordinateOf o d down) v n b f = ap (λ (p : Spot). coordinate p.origin d) (spot_tuple N o b) ∙ f.0

pub full_member : (cs : List Cond) (S : State) (ys : List Variable) (o d : ℕ) (down : Bool) (q : List ℤ) (v : ℤ) → IsEven S → AreOf S (ys ++ CoordinateOf o d down ∷ []) → AreAll S (ys ++ CoordinateOf o d down ∷ []) → d < dims S o → o < length S → length ys ≡ length q → All (λ c. FitsIn c S) cs →
    (T : State) → IsSupported cs T → Inside T S → Begins T (ys ++ CoordinateOf o d down ∷ []) (q ++ v ∷ []) →
    (t : Tuple) × TupleIn t S × All (λ c. holds c t ≡ true) cs × (map (value_in t) (ys ++ CoordinateOf o d down ∷ []) ≡ q ++ v ∷ [])
full_member cs S ys o d down q v e of' all k h len fit T s i b =
    let x = CoordinateOf o d down in
    let r = begins_out T ys x [] q v len b in
    let hT : o < length T = omega (arith, i.objects) in
    let kT : d < dims T o = subst (λ (n : ℕ). d < n) (sym (i.each o).same_lo) k in
    let y = last_point cs T o d down v s hT kT r.1 in
    let p = y.1 in
    let N = with_at T o y.0 (just p) in
    let w : Within (at_only y.0 (just p)) (reach T o) = point_within (reach T o) y.0 p y.2.place y.2.point in
    let nT : Inside N T = put_inside T o y.0 (just p) hT w in
    let nS : Inside N S = inside_trans N T S nT i in
    let full : HasNoEmpty N = put_not_empty T o y.0 (just p) hT s.nonempty (point_not_empty y.0 p (place_from_1 (reach T o).places y.0 y.2.place)) in
    let lastv : IsFixed N x v = (ap (λ (z : Reach). coordinate z.region.lo d) (reach_same T o y.0 (just p) hT) ∙ y.3, ap (λ (z : Reach). coordinate z.region.hi d) (reach_same T o y.0 (just p) hT) ∙ y.3) in
    let before : AreFixed N ys q = still_fixed N T ys q full (front_of N ys x (are_of_same S N (ys ++ x ∷ []) (sym nS.objects) of')) nT r.0 in
    let fixed : AreFixed N (ys ++ x ∷ []) (q ++ v ∷ []) = fixed_last N ys x q v before lastv in
    let one : Inside N (just_this (tuple_of N)) = single_inside N (ys ++ x ∷ []) (q ++ v ∷ []) full (even_kept S N nS e) (all_of S N (ys ++ x ∷ []) nS all) fixed in
    let inS : TupleIn (tuple_of N) S = tuple_in N S full (even_kept S N nS e) nS in (
      tuple_of N,
      inS,
      λ j c l. sym (possible_just (get_or cs j c) (tuple_of N) S (fit j c l) inS) ∙ unrefuted_wider cs N (just_this (tuple_of N)) one full y.2.unrefuted j c l,
      tuple_values N (ys ++ x ∷ []) (q ++ v ∷ []) full (are_of_same S N (ys ++ x ∷ []) (sym nS.objects) of') fixed,
    )
  where
    front_of : (N : State) (ys : List Variable) (x : Variable) → AreOf N (ys ++ x ∷ []) → AreOf N ys
    front_of N [] x a = tt
    front_of N (y ∷ ys) x a = (a.0, front_of N ys x a.1)
