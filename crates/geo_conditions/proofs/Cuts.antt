-- A state cut to the first value of a variable, and past it.
use Rattle.std.proofs.Common.{◌≡◌, ◌≢◌, ℕ, zero, suc, ◌<◌, ◌≤◌, Bool, true, false, List, [], ◌∷◌, length, set, refl, sym, ap, ◌∙◌, subst, inl, inr, ◌⊎◌, arith, ℤ, pos, negsuc, ◌+ℤ◌, ◌≤ℤ◌, ◌<ℤ◌}
use Rattle.std.proofs.lemmas.Int.{ints}
use Rattle.std.proofs.lemmas.Bool.{cases_lt, false≢true}
use Rattle.std.proofs.lemmas.List.{get_or_past, get_or-set_same}
use Rattle.std.proofs.Math.ListN.{length-set}
use Rattle.geo_base.specs.Boxes.{coordinate}
use Rattle.geo_conditions.specs.Reach.{State, Reach, reach, nowhere, has, low, high, dims, place_in, how_many, only, Inside, HasNoEmpty}
use Rattle.geo_conditions.specs.Walk.{Variable, PlaceOf, CoordinateOf, object_of, IsBefore, IsFixed, IsFirstValue}
use Rattle.geo_conditions.specs.Keeps.{size}
use Rattle.geo_conditions.proofs.Sets.{only_self, only_same}
use Rattle.geo_conditions.proofs.Points.{inside_trans, place_from_1}
use Rattle.geo_conditions.proofs.Decide.{cases_ℤ}
use Rattle.geo_conditions.proofs.Greatest.{IsEven, narrowed, still_inside, at_set, without_place, raised, lowered, set_false, set_kept, size_set, fewer, lo_narrower, hi_narrower}
use Rattle.geo_conditions.proofs.Steps.{Narrows, fix_low, past_low}
use Rattle.geo_conditions.proofs.Full.{first_place, first_there}
use Rattle.geo_conditions.proofs.Walks.{same_pos}

-- the variable's object and dimension exist
abbrev pub IsThere : State → Variable → Type 0
IsThere S (PlaceOf o) = o < length S
IsThere S (CoordinateOf o d down) = (o < length S) × (d < dims S o)

pub there_inside : (T S : State) (x : Variable) → Inside T S → IsThere S x → IsThere T x
there_inside T S (PlaceOf o) i h = omega (arith, i.objects)
there_inside T S (CoordinateOf o d down) i h = (omega (arith, i.objects, h.0), subst (λ (n : ℕ). d < n) (sym (i.each o).same_lo) h.1)

pub object_there : (S : State) (x : Variable) → IsThere S x → object_of x < length S
object_there S (PlaceOf o) h = h
object_there S (CoordinateOf o d down) h = h.0

-- in S the variable has only values after u
abbrev pub IsPast : State → Variable → ℤ → Type 0
IsPast S (PlaceOf o) u = (s : ℕ) → has S o s ≡ true → u <ℤ pos s
IsPast S (CoordinateOf o d false) u = u <ℤ low S o d
IsPast S (CoordinateOf o d true) u = high S o d <ℤ u

first_least : (bs : List Bool) (u : ℕ) → place_in bs u ≡ true → first_place bs ≤ u
first_least bs zero h = absurd (false≢true h)
first_least [] (suc u) h = absurd (false≢true h)
first_least (true ∷ bs) (suc u) h = omega arith
first_least (false ∷ bs) (suc zero) h = absurd (false≢true h)
first_least (false ∷ bs) (suc (suc u)) h = let l : first_place bs ≤ suc u = first_least bs (suc u) h in omega arith

-- a variable has a first value
pub first_of : (G : State) (x : Variable) → HasNoEmpty G → IsThere G x → (u : ℤ) × IsFirstValue G x u
first_of G (PlaceOf o) n h =
    let bs = (reach G o).places in
    let p = (n o h).place in
    (pos (first_place bs), (first_place bs, refl, first_there bs p.0 p.1, first_least bs))
first_of G (CoordinateOf o d false) n h = (low G o d, refl)
first_of G (CoordinateOf o d true) n h = (high G o d, refl)

-- the same narrowing under another demand
narrows_same : (G N : State) (P Q : State → Type 0) → ((T : State) → HasNoEmpty T → Inside T G → P T → Q T) → ((T : State) → HasNoEmpty T → Inside T G → Q T → P T) → Narrows G N P → Narrows G N Q
narrows_same G N P Q to back n = record {
  inside = n.inside;
  meet = λ T e i. to T e (inside_trans T N G i n.inside) (n.meet T e i);
  all = λ T e i q. n.all T e i (back T e i q);
}

-- ---- cut to the first value

abbrev kept_place : Reach → ℕ → Reach
kept_place r s = record { places = only s; region = r.region }

abbrev cut_low : Reach → ℕ → ℤ → Reach
cut_low r d v = record { places = r.places; region = record { lo = set r.region.lo d v; hi = r.region.hi } }

fix_place : (G : State) (o s : ℕ) → o < length G → has G o s ≡ true → Narrows G (set G o (kept_place (reach G o) s)) (λ T. IsFixed T (PlaceOf o) (pos s))
fix_place G o s h there = record {
  inside = narrowed G o (kept_place (reach G o) s) (record {
    same_lo = refl;
    same_hi = refl;
    places = λ v k. subst (λ (w : ℕ). has G o w ≡ true) (sym (only_same s v k)) there;
    lows = λ d. omega (arith, ints);
    highs = λ d. omega (arith, ints);
  }) h;
  meet = λ T n i v k. ap pos (only_same s v (sym (ap (λ (q : Reach). place_in q.places v) (get_or-set_same G o (kept_place (reach G o) s) nowhere h)) ∙ (i.each o).places v k));
  all = λ T n i f. still_inside T G o (kept_place (reach G o) s) h i (record {
    same_lo = (i.each o).same_lo;
    same_hi = (i.each o).same_hi;
    places = λ v k. subst (λ (w : ℕ). place_in (only s) w ≡ true) (sym (same_pos v s (f v k))) (only_self s (place_from_1 (reach G o).places s there));
    lows = (i.each o).lows;
    highs = (i.each o).highs;
  });
}

fix_high : (G : State) (o d : ℕ) → o < length G → d < dims G o → low G o d ≤ℤ high G o d → Narrows G (set G o (cut_low (reach G o) d (high G o d))) (λ T. high G o d ≤ℤ low T o d)
fix_high G o d h k l = record {
  inside = narrowed G o (cut_low (reach G o) d (high G o d)) (record {
    same_lo = length-set (reach G o).region.lo d (high G o d);
    same_hi = refl;
    places = λ s t. t;
    lows = at_set (λ e v. low G o e ≤ℤ v) (reach G o).region.lo d (high G o d) (λ b. l) (λ e. omega (arith, ints));
    highs = λ e. omega (arith, ints);
  }) h;
  meet = λ T n i. subst (λ (z : ℤ). z ≤ℤ low T o d)
      (ap (λ (r : Reach). coordinate r.region.lo d) (get_or-set_same G o (cut_low (reach G o) d (high G o d)) nowhere h) ∙ get_or-set_same (reach G o).region.lo d (high G o d) (pos 0) k)
      ((i.each o).lows d);
  all = λ T n i q. still_inside T G o (cut_low (reach G o) d (high G o d)) h i (record {
    same_lo = (i.each o).same_lo ∙ sym (length-set (reach G o).region.lo d (high G o d));
    same_hi = (i.each o).same_hi;
    places = (i.each o).places;
    lows = at_set (λ e v. v ≤ℤ low T o e) (reach G o).region.lo d (high G o d) (λ b. q) (i.each o).lows;
    highs = (i.each o).highs;
  });
}

pub fix : (G : State) (x : Variable) (u : ℤ) → IsEven G → HasNoEmpty G → IsThere G x → IsFirstValue G x u → (N : State) × Narrows G N (λ T. IsFixed T x u)
fix G (PlaceOf o) u e n h f =
    subst (λ (z : ℤ). (N : State) × Narrows G N (λ T. IsFixed T (PlaceOf o) z)) f.1 (set G o (kept_place (reach G o) f.0), fix_place G o f.0 h f.2)
fix G (CoordinateOf o d false) u e n h f = (
  _,
  narrows_same G _ (λ T. high T o d ≤ℤ low G o d) (λ T. (low T o d ≡ u) × (high T o d ≡ u))
      (λ T t i p. let r = (t o (omega (arith, i.objects, h.0))).ranges d in (omega (arith, ints, r, p, f, (i.each o).lows d), omega (arith, ints, r, p, f, (i.each o).lows d)))
      (λ T t i q. omega (arith, ints, q.1, f))
      (fix_low G o d h.0 (omega (arith, h.1, e o)) ((n o h.0).ranges d)),
)
fix G (CoordinateOf o d true) u e n h f = (
  _,
  narrows_same G _ (λ T. high G o d ≤ℤ low T o d) (λ T. (low T o d ≡ u) × (high T o d ≡ u))
      (λ T t i p. let r = (t o (omega (arith, i.objects, h.0))).ranges d in (omega (arith, ints, r, p, f, (i.each o).highs d), omega (arith, ints, r, p, f, (i.each o).highs d)))
      (λ T t i q. omega (arith, ints, q.0, f))
      (fix_high G o d h.0 h.1 ((n o h.0).ranges d)),
)

-- ---- past the first value

set_gone : (bs : List Bool) (k : ℕ) → place_in (set bs k false) (suc k) ≡ true → ⊥
set_gone bs k h = elim (cases_lt k (length bs)) [
  | inl b ↦ false≢true (sym (get_or-set_same bs k false false b) ∙ h)
  | inr b ↦ false≢true (sym (get_or_past (set bs k false) k false (omega (arith, length-set bs k false))) ∙ h)
]

past_place : (G : State) (o k : ℕ) → o < length G → ((v : ℕ) → has G o v ≡ true → suc k ≤ v) → Narrows G (set G o (without_place (reach G o) k)) (λ T. IsPast T (PlaceOf o) (pos (suc k)))
past_place G o k h least = record {
  inside = narrowed G o (without_place (reach G o) k) (record {
    same_lo = refl;
    same_hi = refl;
    places = λ v t. set_false (reach G o).places k v t;
    lows = λ d. omega (arith, ints);
    highs = λ d. omega (arith, ints);
  }) h;
  meet = λ T n i v t.
      let there : place_in (set (reach G o).places k false) v ≡ true = sym (ap (λ (q : Reach). place_in q.places v) (get_or-set_same G o (without_place (reach G o) k) nowhere h)) ∙ (i.each o).places v t in
      let l : suc k ≤ v = least v (set_false (reach G o).places k v there) in
      let ne : v ≢ suc k = λ e. set_gone (reach G o).places k (subst (λ (w : ℕ). place_in (set (reach G o).places k false) w ≡ true) e there) in
      let m : suc k < v = omega arith in
      omega (arith, ints, m);
  all = λ T n i p. still_inside T G o (without_place (reach G o) k) h i (record {
    same_lo = (i.each o).same_lo;
    same_hi = (i.each o).same_hi;
    places = λ v t. set_kept (reach G o).places k v (λ e. let l = p v t in absurd (omega (arith, ints, l, e))) ((i.each o).places v t);
    lows = (i.each o).lows;
    highs = (i.each o).highs;
  });
}

past_high : (G : State) (o d : ℕ) → o < length G → d < length (reach G o).region.hi → Narrows G (set G o (lowered (reach G o) d)) (λ T. high T o d <ℤ high G o d)
past_high G o d h k = record {
  inside = narrowed G o (lowered (reach G o) d) (record {
    same_lo = refl;
    same_hi = length-set (reach G o).region.hi d (high G o d +ℤ negsuc 0);
    places = λ s t. t;
    lows = λ e. omega (arith, ints);
    highs = at_set (λ e v. v ≤ℤ high G o e) (reach G o).region.hi d (high G o d +ℤ negsuc 0) (λ b. omega (arith, ints)) (λ e. omega (arith, ints));
  }) h;
  meet = λ T n i. let e : coordinate (reach (set G o (lowered (reach G o) d)) o).region.hi d ≡ high G o d +ℤ negsuc 0 =
      ap (λ (r : Reach). coordinate r.region.hi d) (get_or-set_same G o (lowered (reach G o) d) nowhere h) ∙ get_or-set_same (reach G o).region.hi d (high G o d +ℤ negsuc 0) (pos 0) k in
      let m : high T o d ≤ℤ (high G o d +ℤ negsuc 0) = subst (λ (z : ℤ). high T o d ≤ℤ z) e ((i.each o).highs d) in omega (arith, ints, m);
  all = λ T n i q. still_inside T G o (lowered (reach G o) d) h i (record {
    same_lo = (i.each o).same_lo;
    same_hi = (i.each o).same_hi ∙ sym (length-set (reach G o).region.hi d (high G o d +ℤ negsuc 0));
    places = (i.each o).places;
    lows = (i.each o).lows;
    highs = at_set (λ e v. high T o e ≤ℤ v) (reach G o).region.hi d (high G o d +ℤ negsuc 0) (λ b. omega (arith, ints, q)) (i.each o).highs;
  });
}

-- what is left past the first value is a smaller state, or nothing
abbrev pub IsCut : State → Variable → ℤ → Type 0
IsCut G x u = ((N : State) × Narrows G N (λ T. IsPast T x u) × (size N < size G)) ⊎ ((T : State) → HasNoEmpty T → Inside T G → IsPast T x u → ⊥)

cut_place : (G : State) (o s : ℕ) → o < length G → has G o s ≡ true → ((v : ℕ) → has G o v ≡ true → s ≤ v) → IsCut G (PlaceOf o) (pos s)
cut_place G o zero h t least = absurd (false≢true t)
cut_place G o (suc k) h t least = inl (
  set G o (without_place (reach G o) k),
  past_place G o k h least,
  size_set G o (without_place (reach G o) k) h (let l : how_many (set (reach G o).places k false) < how_many (reach G o).places = fewer (reach G o).places k t in omega arith),
)

pub cut : (G : State) (x : Variable) (u : ℤ) → IsEven G → HasNoEmpty G → IsThere G x → IsFirstValue G x u → IsCut G x u
cut G (PlaceOf o) u e n h f = subst (IsCut G (PlaceOf o)) f.1 (cut_place G o f.0 h f.2 f.3)
cut G (CoordinateOf o d false) u e n h f = elim (cases_ℤ (low G o d) (high G o d)) [
  | inl l ↦ inl (
    set G o (raised (reach G o) d),
    subst (λ (z : ℤ). Narrows G (set G o (raised (reach G o) d)) (λ T. z <ℤ low T o d)) f (past_low G o d h.0 h.1),
    size_set G o (raised (reach G o) d) h.0 (let w = lo_narrower (reach G o).region.lo (reach G o).region.hi d (coordinate (reach G o).region.lo d +ℤ pos 1) h.1 (e o) (omega (arith, ints)) l in omega arith),
  )
  | inr l ↦ inr (λ T t i p. let r = (t o (omega (arith, i.objects, h.0))).ranges d in absurd (omega (arith, ints, r, p, f, l, (i.each o).highs d)))
]
cut G (CoordinateOf o d true) u e n h f = elim (cases_ℤ (low G o d) (high G o d)) [
  | inl l ↦ inl (
    set G o (lowered (reach G o) d),
    subst (λ (z : ℤ). Narrows G (set G o (lowered (reach G o) d)) (λ T. high T o d <ℤ z)) f (past_high G o d h.0 (omega (arith, h.1, e o))),
    size_set G o (lowered (reach G o) d) h.0 (let w = hi_narrower (reach G o).region.lo (reach G o).region.hi d (coordinate (reach G o).region.hi d +ℤ negsuc 0) h.1 (e o) (omega (arith, ints)) l in omega arith),
  )
  | inr l ↦ inr (λ T t i p. let r = (t o (omega (arith, i.objects, h.0))).ranges d in absurd (omega (arith, ints, r, p, f, l, (i.each o).lows d)))
]

-- ---- values of a variable

tri_ℤ : (a b : ℤ) → (a <ℤ b) ⊎ ((a ≡ b) ⊎ (b <ℤ a))
tri_ℤ a b = elim (cases_ℤ a b) [
  | inl h ↦ inl h
  | inr h ↦ elim (cases_ℤ b a) [ inl k ↦ inr (inr k) | inr k ↦ inr (inl (omega (arith, ints))) ]
]

pub order_cases : (x : Variable) (v u : ℤ) → IsBefore x v u ⊎ ((v ≡ u) ⊎ IsBefore x u v)
order_cases (PlaceOf o) v u = tri_ℤ v u
order_cases (CoordinateOf o d false) v u = tri_ℤ v u
order_cases (CoordinateOf o d true) v u = elim (tri_ℤ u v) [ inl h ↦ inl h | inr h ↦ elim h [ inl e ↦ inr (inl (sym e)) | inr k ↦ inr (inr k) ] ]

pub value_past : (T : State) (x : Variable) (u v : ℤ) → IsFirstValue T x v → IsBefore x u v → IsPast T x u
value_past T (PlaceOf o) u v f b = λ s h. let l : f.0 ≤ s = f.3 s h in omega (arith, ints, f.1, b, l)
value_past T (CoordinateOf o d false) u v f b = omega (arith, ints, f, b)
value_past T (CoordinateOf o d true) u v f b = omega (arith, ints, f, b)

pub past_value : (T : State) (x : Variable) (u v : ℤ) → IsFirstValue T x v → IsPast T x u → IsBefore x u v
past_value T (PlaceOf o) u v f p = omega (arith, ints, f.1, p f.0 f.2)
past_value T (CoordinateOf o d false) u v f p = omega (arith, ints, f, p)
past_value T (CoordinateOf o d true) u v f p = omega (arith, ints, f, p)
