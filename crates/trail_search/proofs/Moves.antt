-- One variable narrowed: fixed to its first value, or cut before a bound.
use Rattle.std.proofs.Common.{◌≡◌, ◌≢◌, ℕ, zero, suc, ◌+◌, ◌<◌, ◌≤◌, Bool, true, false, List, length, set, refl, sym, ap, ◌∙◌, subst, inl, inr, arith, ℤ, pos, ◌≤ℤ◌, ◌<ℤ◌}
use Rattle.std.proofs.lemmas.Int.{ints}
use Rattle.std.proofs.lemmas.Bool.{cases_lt, cases_eq, false≢true}
use Rattle.std.proofs.lemmas.List.{get_or_past, get_or-set_same, get_or-set_other}
use Rattle.std.proofs.Math.ListN.{length-set}
use Rattle.geo_conditions.specs.Reach.{State, Reach, reach, nowhere, place_in, has, low, high, with_low, with_high, without, Inside, NotEmpty, HasNoEmpty}
use Rattle.geo_base.specs.Boxes.{coordinate}
use Rattle.geo_conditions.proofs.Points.{inside_self, inside_trans}
use Rattle.geo_conditions.proofs.Greatest.{narrowed, still_inside, at_set}
use Rattle.geo_conditions.specs.Walk.{Variable, PlaceOf, CoordinateOf, object_of, IsFixed, IsFirstValue}
use Rattle.geo_state.proofs.Shapes.{place_few}
use Rattle.geo_state.proofs.Narrower.{set_false}
use Rattle.trail_search.specs.Cursor.{after, IsFrom, Narrows, HasAfter, HasNoneFrom}
use Rattle.trail_search.specs.Shed.{Sheds}

-- ---- places

-- places count from 1
pub place_from_1 : (bs : List Bool) (s : ℕ) → place_in bs s ≡ true → 1 ≤ s
place_from_1 bs zero h = absurd (false≢true h)
place_from_1 bs (suc s) h = omega arith

-- no place before n is there
abbrev pub NoneFrom : State → ℕ → ℕ → Type 0
NoneFrom S o n = (s : ℕ) → s < n → has S o s ≡ true → ⊥

-- one place more that is not there
pub none_more : (S : State) (o n : ℕ) → NoneFrom S o n → (has S o n ≡ false) → NoneFrom S o (n + 1)
none_more S o n h f s b t = elim (cases_eq s n) [
  | inl e ↦ false≢true (sym f ∙ subst (λ (z : ℕ). has S o z ≡ true) e t)
  | inr ne ↦ h s (omega arith) t
]

-- there is none before the first
pub none_start : (S : State) (o : ℕ) → NoneFrom S o 1
none_start S o s b t = absurd (let l = place_from_1 (reach S o).places s t in omega (arith, l))

-- each place that is there comes from n on
pub least_of : (S : State) (o n u : ℕ) → NoneFrom S o n → has S o u ≡ true → n ≤ u
least_of S o n u h t = elim (cases_lt u n) [ inl b ↦ absurd (h u b t) | inr b ↦ b ]

-- all places are tried, and a set that is not empty has one
pub not_none : (S : State) (o n : ℕ) → NoneFrom S o n → 17 ≤ n → length (reach S o).places ≡ 16 → NotEmpty (reach S o) → ⊥
not_none S o n h l e full = h full.place.0 (omega (arith, place_few (reach S o).places full.place.0 full.place.1)) full.place.1

-- ---- places taken away

-- a place that is taken away is gone
set_gone : (bs : List Bool) (k : ℕ) → place_in (set bs k false) (suc k) ≡ false
set_gone bs k = elim (cases_lt k (length bs)) [
  | inl b ↦ get_or-set_same bs k false false b
  | inr b ↦ get_or_past (set bs k false) k false (omega (arith, length-set bs k false))
]

-- the others stay
set_kept : (bs : List Bool) (k u : ℕ) → u ≢ suc k → place_in bs u ≡ true → place_in (set bs k false) u ≡ true
set_kept bs k zero ne h = h
set_kept bs k (suc u) ne h = let ne' : u ≢ k = omega arith in get_or-set_other bs k u false false ne' ∙ h

-- what is not true is false
pub not_true : (b : Bool) → (b ≡ true → ⊥) → b ≡ false
not_true true h = absurd (h refl)
not_true false h = refl

-- nothing is taken away yet
pub sheds_start : (G : State) (o a : ℕ) → Sheds G G o a a
sheds_start G o a = record { inside = inside_self G; gone = λ s l m. absurd (omega arith); all = λ T i h. i }

-- an object without the place k + 1
abbrev dropped : Reach → ℕ → Reach
dropped r k = record { places = set r.places k false; region = r.region }

-- one place more is taken away
sheds_drop : (G N : State) (o a k : ℕ) → o < length N → Sheds G N o a (suc k) → a ≤ suc k → Sheds G (set N o (dropped (reach N o) k)) o a (suc (suc k))
sheds_drop G N o a k h s l =
    let i : Inside (set N o (dropped (reach N o) k)) N = narrowed N o (dropped (reach N o) k) (record {
      same_lo = refl;
      same_hi = refl;
      places = λ u t. set_false (reach N o).places k u t;
      lows = λ d. omega (arith, ints);
      highs = λ d. omega (arith, ints);
    }) h in
    record {
      inside = inside_trans (set N o (dropped (reach N o) k)) N G i s.inside;
      gone = λ z b c. elim (cases_eq z (suc k)) [
        | inl e ↦ subst (λ (y : ℕ). has (set N o (dropped (reach N o) k)) o y ≡ false) (sym e) (ap (λ (r : Reach). place_in r.places (suc k)) (get_or-set_same N o (dropped (reach N o) k) nowhere h) ∙ set_gone (reach N o).places k)
        | inr ne ↦ not_true (has (set N o (dropped (reach N o) k)) o z) (λ t. false≢true (sym (s.gone z b (omega arith)) ∙ (i.each o).places z t))
      ];
      all = λ T j none.
          let m : Inside T N = s.all T j (λ z b c. none z b (omega arith)) in
          still_inside T N o (dropped (reach N o) k) h m (record {
            same_lo = (m.each o).same_lo;
            same_hi = (m.each o).same_hi;
            places = λ u t. set_kept (reach N o).places k u (λ e. false≢true (sym (none (suc k) l (omega arith)) ∙ subst (λ (y : ℕ). has T o y ≡ true) e t)) ((m.each o).places u t);
            lows = (m.each o).lows;
            highs = (m.each o).highs;
          });
    }

-- the same as the code does it
pub sheds_more : (G N R : State) (o a s : ℕ) → o < length G → 1 ≤ s → a ≤ s → Sheds G N o a s → R ≡ set N o (without (reach N o) s) → Sheds G R o a (s + 1)
sheds_more G N R o a zero h k l m q = absurd (omega arith)
sheds_more G N R o a (suc k) h l m s q =
    let h' : o < length N = omega (arith, h, s.inside.objects) in
    let e : set N o (without (reach N o) (suc k)) ≡ set N o (dropped (reach N o) k) = ap (λ (n : ℕ). set N o (record { places = set (reach N o).places n false; region = (reach N o).region })) (omega arith) in
    let f : suc (suc k) ≡ suc k + 1 = omega arith in
    subst (λ (n : ℕ). Sheds G R o a n) f (subst (λ (S : State). Sheds G S o a (suc (suc k))) (sym (q ∙ e)) (sheds_drop G N o a k h' s m))

-- without the places after the first one, the object has that one alone
pub fix_place : (G N : State) (o u : ℕ) (v : ℤ) → length (reach G o).places ≡ 16 → IsFirstValue G (PlaceOf o) v → v ≡ pos u → Sheds G N o (u + 1) 17 → Narrows G N (λ T. IsFixed T (PlaceOf o) v)
fix_place G N o u v e f q s = record {
  inside = s.inside;
  meet = λ T n i. λ z t.
      let g : f.0 ≤ z = f.3 z ((s.inside.each o).places z ((i.each o).places z t)) in
      let r : z ≤ length (reach G o).places = place_few (reach G o).places z ((s.inside.each o).places z ((i.each o).places z t)) in
      elim (cases_lt u z) [
        | inl b ↦ absurd (false≢true (sym (s.gone z (omega (arith, b)) (omega (arith, r, e))) ∙ (i.each o).places z t))
        | inr b ↦ omega (arith, ints, f.1, q, g, b)
      ];
  all = λ T n i h. s.all T i (λ z b c. not_true (has T o z) (λ t. let w : pos z ≡ v = h z t in absurd (omega (arith, ints, w, q, b))));
}

-- without the places before the bound, none comes before it
pub bound_place : (G N : State) (o c : ℕ) (v : ℤ) → length (reach G o).places ≡ 16 → c ≤ 17 → 1 ≤ c → (c ≤ 16 → v ≤ℤ pos c) → (1 < c → pos c ≤ℤ v) → Sheds G N o 1 c → Narrows G N (λ T. IsFrom T (PlaceOf o) v)
bound_place G N o c v e k l p q s = record {
  inside = s.inside;
  meet = λ T n i. λ z t.
      let there = (s.inside.each o).places z ((i.each o).places z t) in
      let one : 1 ≤ z = place_from_1 (reach G o).places z there in
      let few : z ≤ length (reach G o).places = place_few (reach G o).places z there in
      elim (cases_lt z c) [
        | inl b ↦ absurd (false≢true (sym (s.gone z one b) ∙ (i.each o).places z t))
        | inr b ↦ let y : v ≤ℤ pos c = p (omega (arith, b, few, e)) in omega (arith, ints, y, b)
      ];
  all = λ T n i h. s.all T i (λ z b d. not_true (has T o z) (λ t. let w : v ≤ℤ pos z = h z t in let y : pos c ≤ℤ v = q (omega (arith, b, d)) in absurd (omega (arith, ints, w, y, d))));
}

-- ---- coordinates

-- a lower high end
narrow_high : (G : State) (o d : ℕ) (v : ℤ) → o < length G → d < length (reach G o).region.hi → v ≤ℤ high G o d → Narrows G (set G o (with_high (reach G o) d v)) (λ T. high T o d ≤ℤ v)
narrow_high G o d v h k l = record {
  inside = narrowed G o (with_high (reach G o) d v) (record {
    same_lo = refl;
    same_hi = length-set (reach G o).region.hi d v;
    places = λ s t. t;
    lows = λ e. omega (arith, ints);
    highs = at_set (λ e z. z ≤ℤ high G o e) (reach G o).region.hi d v (λ b. l) (λ e. omega (arith, ints));
  }) h;
  meet = λ T n i. subst (λ (z : ℤ). high T o d ≤ℤ z)
      (ap (λ (r : Reach). coordinate r.region.hi d) (get_or-set_same G o (with_high (reach G o) d v) nowhere h) ∙ get_or-set_same (reach G o).region.hi d v (pos 0) k)
      ((i.each o).highs d);
  all = λ T n i q. still_inside T G o (with_high (reach G o) d v) h i (record {
    same_lo = (i.each o).same_lo;
    same_hi = (i.each o).same_hi ∙ sym (length-set (reach G o).region.hi d v);
    places = (i.each o).places;
    lows = (i.each o).lows;
    highs = at_set (λ e z. high T o e ≤ℤ z) (reach G o).region.hi d v (λ b. q) (i.each o).highs;
  });
}

-- a higher low end
narrow_low : (G : State) (o d : ℕ) (v : ℤ) → o < length G → d < length (reach G o).region.lo → low G o d ≤ℤ v → Narrows G (set G o (with_low (reach G o) d v)) (λ T. v ≤ℤ low T o d)
narrow_low G o d v h k l = record {
  inside = narrowed G o (with_low (reach G o) d v) (record {
    same_lo = length-set (reach G o).region.lo d v;
    same_hi = refl;
    places = λ s t. t;
    lows = at_set (λ e z. low G o e ≤ℤ z) (reach G o).region.lo d v (λ b. l) (λ e. omega (arith, ints));
    highs = λ e. omega (arith, ints);
  }) h;
  meet = λ T n i. subst (λ (z : ℤ). z ≤ℤ low T o d)
      (ap (λ (r : Reach). coordinate r.region.lo d) (get_or-set_same G o (with_low (reach G o) d v) nowhere h) ∙ get_or-set_same (reach G o).region.lo d v (pos 0) k)
      ((i.each o).lows d);
  all = λ T n i q. still_inside T G o (with_low (reach G o) d v) h i (record {
    same_lo = (i.each o).same_lo ∙ sym (length-set (reach G o).region.lo d v);
    same_hi = (i.each o).same_hi;
    places = (i.each o).places;
    lows = at_set (λ e z. z ≤ℤ low T o e) (reach G o).region.lo d v (λ b. q) (i.each o).lows;
    highs = (i.each o).highs;
  });
}

-- a state inside has the same objects
in_length : (N G T : State) (o : ℕ) → o < length G → Inside T N → Inside N G → o < length T
in_length N G T o h i j = omega (arith, i.objects, j.objects, h)

-- upwards a coordinate is fixed by its high end
pub fix_up : (G N : State) (o d : ℕ) (v : ℤ) → o < length G → d < length (reach G o).region.hi → NotEmpty (reach G o) → IsFirstValue G (CoordinateOf o d false) v → N ≡ set G o (with_high (reach G o) d v) → Narrows G N (λ T. IsFixed T (CoordinateOf o d false) v)
fix_up G N o d v h k full f q =
    let n = narrow_high G o d v h k (let r = full.ranges d in omega (arith, ints, r, f)) in
    subst (λ (S : State). Narrows G S (λ T. IsFixed T (CoordinateOf o d false) v)) (sym q) (record {
      inside = n.inside;
      meet = λ T e i. let r = (e o (in_length (set G o (with_high (reach G o) d v)) G T o h i n.inside)).ranges d in
          let a : high T o d ≤ℤ v = n.meet T e i in
          let b : low G o d ≤ℤ low T o d = ((inside_trans T (set G o (with_high (reach G o) d v)) G i n.inside).each o).lows d in
          (omega (arith, ints, r, a, b, f), omega (arith, ints, r, a, b, f));
      all = λ T e i x. n.all T e i (omega (arith, ints, x.1));
    })

-- downwards by its low end
pub fix_down : (G N : State) (o d : ℕ) (v : ℤ) → o < length G → d < length (reach G o).region.lo → NotEmpty (reach G o) → IsFirstValue G (CoordinateOf o d true) v → N ≡ set G o (with_low (reach G o) d v) → Narrows G N (λ T. IsFixed T (CoordinateOf o d true) v)
fix_down G N o d v h k full f q =
    let n = narrow_low G o d v h k (let r = full.ranges d in omega (arith, ints, r, f)) in
    subst (λ (S : State). Narrows G S (λ T. IsFixed T (CoordinateOf o d true) v)) (sym q) (record {
      inside = n.inside;
      meet = λ T e i. let r = (e o (in_length (set G o (with_low (reach G o) d v)) G T o h i n.inside)).ranges d in
          let a : v ≤ℤ low T o d = n.meet T e i in
          let b : high T o d ≤ℤ high G o d = ((inside_trans T (set G o (with_low (reach G o) d v)) G i n.inside).each o).highs d in
          (omega (arith, ints, r, a, b, f), omega (arith, ints, r, a, b, f));
      all = λ T e i x. n.all T e i (omega (arith, ints, x.0));
    })

-- upwards a bound is a low end
pub bound_up : (G N : State) (o d : ℕ) (v : ℤ) → o < length G → d < length (reach G o).region.lo → low G o d ≤ℤ v → N ≡ set G o (with_low (reach G o) d v) → Narrows G N (λ T. IsFrom T (CoordinateOf o d false) v)
bound_up G N o d v h k l q = subst (λ (S : State). Narrows G S (λ T. IsFrom T (CoordinateOf o d false) v)) (sym q) (narrow_low G o d v h k l)

-- downwards it is a high end
pub bound_down : (G N : State) (o d : ℕ) (v : ℤ) → o < length G → d < length (reach G o).region.hi → v ≤ℤ high G o d → N ≡ set G o (with_high (reach G o) d v) → Narrows G N (λ T. IsFrom T (CoordinateOf o d true) v)
bound_down G N o d v h k l q = subst (λ (S : State). Narrows G S (λ T. IsFrom T (CoordinateOf o d true) v)) (sym q) (narrow_high G o d v h k l)

-- upwards a bound at most the low end changes nothing
pub same_up : (G : State) (o d : ℕ) (v : ℤ) → v ≤ℤ low G o d → Narrows G G (λ T. IsFrom T (CoordinateOf o d false) v)
same_up G o d v l = record { inside = inside_self G; meet = λ T n i. omega (arith, ints, l, (i.each o).lows d); all = λ T n i q. i }

-- downwards a bound at least the high end changes nothing
pub same_down : (G : State) (o d : ℕ) (v : ℤ) → high G o d ≤ℤ v → Narrows G G (λ T. IsFrom T (CoordinateOf o d true) v)
same_down G o d v l = record { inside = inside_self G; meet = λ T n i. omega (arith, ints, l, (i.each o).highs d); all = λ T n i q. i }

-- the first value of a place is the least one
pub fix_least : (G N : State) (o p u : ℕ) (v : ℤ) → length (reach G o).places ≡ 16 → IsFirstValue G (PlaceOf o) v → has G o p ≡ true → ((z : ℕ) → has G o z ≡ true → p ≤ z) → u ≡ p + 1 → Sheds G N o u 17 → Narrows G N (λ T. IsFixed T (PlaceOf o) v)
fix_least G N o p u v e f there least q s =
    let a : f.0 ≤ p = f.3 p there in
    let b : p ≤ f.0 = least f.0 f.2 in
    fix_place G N o p v e f (omega (arith, ints, f.1, a, b)) (subst (λ (n : ℕ). Sheds G N o n 17) q s)

-- no coordinate is left: the object loses its places
pub bound_none : (G N : State) (o : ℕ) (Q : State → Type 0) → length (reach G o).places ≡ 16 → o < length G → Sheds G N o 1 17 → ((T : State) → HasNoEmpty T → Inside T G → Q T → ⊥) → Narrows G N Q
bound_none G N o Q e h s none = record {
  inside = s.inside;
  meet = λ T n i.
      let p = (n o (in_length N G T o h i s.inside)).place in
      let there = (i.each o).places p.0 p.1 in
      let g : has G o p.0 ≡ true = (s.inside.each o).places p.0 there in
      absurd (false≢true (sym (s.gone p.0 (place_from_1 (reach G o).places p.0 g) (omega (arith, place_few (reach G o).places p.0 g, e))) ∙ there));
  all = λ T n i q. absurd (none T n i q);
}

-- upwards no coordinate is left past the high end
pub none_up : (G : State) (o d : ℕ) (v : ℤ) → o < length G → high G o d <ℤ v → (T : State) → HasNoEmpty T → Inside T G → IsFrom T (CoordinateOf o d false) v → ⊥
none_up G o d v h l T n i q = let r = (n o (omega (arith, i.objects, h))).ranges d in absurd (omega (arith, ints, l, r, q, (i.each o).highs d))

-- downwards none is left past the low end
pub none_down : (G : State) (o d : ℕ) (v : ℤ) → o < length G → v <ℤ low G o d → (T : State) → HasNoEmpty T → Inside T G → IsFrom T (CoordinateOf o d true) v → ⊥
none_down G o d v h l T n i q = let r = (n o (omega (arith, i.objects, h))).ranges d in absurd (omega (arith, ints, l, r, q, (i.each o).lows d))

-- ---- a later value

-- no place before the next one is there and after v
abbrev pub NoneAfter : State → ℕ → ℤ → ℕ → Type 0
NoneAfter S o v n = (s : ℕ) → s < n → has S o s ≡ true → v <ℤ pos s → ⊥

-- no place before the first comes after a number
pub none_after_start : (S : State) (o : ℕ) (v : ℤ) → NoneAfter S o v 1
none_after_start S o v s b t l = absurd (let m = place_from_1 (reach S o).places s t in omega (arith, m, b))

-- one place more that does not
pub none_after_more : (S : State) (o n : ℕ) (v : ℤ) → NoneAfter S o v n → (has S o n ≡ true → v <ℤ pos n → ⊥) → NoneAfter S o v (n + 1)
none_after_more S o n v h f s b t l = elim (cases_eq s n) [
  | inl e ↦ f (subst (λ (z : ℕ). has S o z ≡ true) e t) (subst (λ (z : ℕ). v <ℤ pos z) e l)
  | inr ne ↦ h s (omega arith) t l
]

-- all places are tried
pub none_after_end : (S : State) (o n : ℕ) (v : ℤ) → NoneAfter S o v n → 17 ≤ n → length (reach S o).places ≡ 16 → HasAfter S (PlaceOf o) v → ⊥
none_after_end S o n v h l e y = h y.0 (omega (arith, l, e, place_few (reach S o).places y.0 y.1)) y.1 y.2

-- where the variable has no value after u, nothing has all its values from the next number on
pub none_from : (S : State) (x : Variable) (u c : ℤ) → object_of x < length S → (HasAfter S x u → ⊥) → c ≡ after x u → HasNoneFrom S x c
none_from S (PlaceOf o) u c h n e T f i q =
    let p = (f o (omega (arith, i.objects, h))).place in
    let l : c ≤ℤ pos p.0 = q p.0 p.1 in
    n (p.0, (i.each o).places p.0 p.1, omega (arith, ints, l, e))
none_from S (CoordinateOf o d false) u c h n e T f i q =
    let r = (f o (omega (arith, i.objects, h))).ranges d in
    n (omega (arith, ints, r, q, e, (i.each o).highs d))
none_from S (CoordinateOf o d true) u c h n e T f i q =
    let r = (f o (omega (arith, i.objects, h))).ranges d in
    n (omega (arith, ints, r, q, e, (i.each o).lows d))
