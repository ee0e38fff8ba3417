-- Where a point, a place or a tuple goes when a box or a state is cut in two.
use Rattle.std.proofs.Common.{◌≡◌, ◌≢◌, ℕ, zero, suc, ◌+◌, ◌-◌, ◌<◌, ◌≤◌, Bool, true, false, ◌&&◌, List, [], ◌∷◌, length, get_or, set, map, sym, ap, ◌∙◌, subst, inl, inr, ◌⊎◌, arith, ℤ, pos, negsuc, ◌+ℤ◌, ◌≤ℤ◌, Some}
use Rattle.std.specs.Prelude.{int_lt, nat_le, if◌then◌else◌}
use Rattle.std.specs.Int.{int_min, int_max}
use Rattle.std.proofs.lemmas.Int.{ints, clamps}
use Rattle.std.proofs.lemmas.Bool.{cases_lt, cases_eq, cases_Bool, false≢true, or_cases, le-leb}
use Rattle.std.proofs.lemmas.List.{length-map, get_or-set_same, get_or-set_other, set_past}
use Rattle.std.proofs.Math.ListN.{length-set}
use Rattle.geo_base.specs.Boxes.{coordinate}
use Rattle.geo_conditions.specs.Reach.{State, Reach, Region, Spot, Tuple, InBox, SpotIn, TupleIn, reach, spot, nowhere, place_in}
use Rattle.geo_conditions.proofs.Decide.{cases_ℤ}
use Rattle.geo_conditions.proofs.Greatest.{at_set}
use Rattle.derivation.specs.declared.side.Side.{Side}
use Rattle.derivation.specs.declared.side.Side.TheVariants.{Upto, From}
use Rattle.derivation.specs.declared.half.Half.{Half}
use Rattle.derivation.specs.declared.half.Half.TheVariants.{OfPlace, OfSide}
use Rattle.derivation.specs.Cuts.{near, far, empty_between, is_empty}
use Rattle.derivation.specs.PlaceCovers.{next_at, next_place}
use Rattle.derivation.specs.Valid.{alone, first_part, second_part, change}
use Rattle.derivation_check.specs.Sound.{HasPlace}

-- ---- points

in_upto : (p : List ℤ) (b : Region) (d : ℕ) (v : ℤ) → InBox p b → coordinate p d ≤ℤ v → InBox p (record { lo = b.lo; hi = set b.hi d (int_min (coordinate b.hi d) v) })
in_upto p b d v i h = record {
  same_lo = i.same_lo;
  same_hi = i.same_hi ∙ sym (length-set b.hi d (int_min (coordinate b.hi d) v));
  above = i.above;
  below = at_set (λ e x. coordinate p e ≤ℤ x) b.hi d (int_min (coordinate b.hi d) v) (λ l. omega (arith, ints, clamps, i.below d)) i.below;
}

in_from : (p : List ℤ) (b : Region) (d : ℕ) (v : ℤ) → InBox p b → v ≤ℤ coordinate p d → InBox p (record { lo = set b.lo d (int_max (coordinate b.lo d) v); hi = b.hi })
in_from p b d v i h = record {
  same_lo = i.same_lo ∙ sym (length-set b.lo d (int_max (coordinate b.lo d) v));
  same_hi = i.same_hi;
  above = at_set (λ e x. x ≤ℤ coordinate p e) b.lo d (int_max (coordinate b.lo d) v) (λ l. omega (arith, ints, clamps, i.above d)) i.above;
  below = i.below;
}

-- a point of a box lies in one of its two parts
pub in_part : (side : Side) (p : List ℤ) (b : Region) → InBox p b → InBox p (near side b) ⊎ InBox p (far side b)
in_part (Upto d v) p b i = elim (cases_ℤ v (coordinate p d)) [
  | inl h ↦ inr (in_from p b d (v +ℤ pos 1) i (omega (arith, ints)))
  | inr h ↦ inl (in_upto p b d v i h)
]
in_part (From d v) p b i = elim (cases_ℤ (coordinate p d) v) [
  | inl h ↦ inr (in_upto p b d (v +ℤ negsuc 0) i (omega (arith, ints)))
  | inr h ↦ inl (in_from p b d v i h)
]

lt_false : (h l : ℤ) → int_lt h l ≡ true → l ≤ℤ h → ⊥
lt_false h l e k = grind (arith, ints)

-- an empty box has no point
no_empty : (ls hs p : List ℤ) → empty_between ls hs ≡ true → ((d : ℕ) → coordinate ls d ≤ℤ coordinate p d) → ((d : ℕ) → coordinate p d ≤ℤ coordinate hs d) → ⊥
no_empty [] hs p e f g = false≢true e
no_empty (l ∷ ls) [] p e f g = false≢true e
no_empty (l ∷ ls) (h ∷ hs) [] e f g = elim (or_cases (int_lt h l) (empty_between ls hs) e) [
  | inl a ↦ lt_false h l a (omega (arith, ints, f 0, g 0))
  | inr a ↦ no_empty ls hs [] a (λ d. f (suc d)) (λ d. g (suc d))
]
no_empty (l ∷ ls) (h ∷ hs) (x ∷ p) e f g = elim (or_cases (int_lt h l) (empty_between ls hs) e) [
  | inl a ↦ lt_false h l a (omega (arith, ints, f 0, g 0))
  | inr a ↦ no_empty ls hs p a (λ d. f (suc d)) (λ d. g (suc d))
]

pub empty_no_point : (b : Region) (p : List ℤ) → is_empty b ≡ true → InBox p b → ⊥
empty_no_point b p e i = no_empty b.lo b.hi p e i.above i.below

-- ---- places

index_below : (bs : List Bool) (k : ℕ) → get_or bs k false ≡ true → k < length bs
index_below [] k h = absurd (false≢true h)
index_below (b ∷ bs) zero h = omega arith
index_below (b ∷ bs) (suc k) h = omega (arith, index_below bs k h)

pub in_alone : (bs : List Bool) (s : ℕ) → place_in bs s ≡ true → place_in (alone s bs) s ≡ true
in_alone bs zero h = absurd (false≢true h)
in_alone bs (suc k) h = get_or-set_same (map (λ _. false) bs) k (get_or bs k false) false (omega (arith, length-map bs (λ (b : Bool). false), index_below bs k h)) ∙ h

set_kept : (bs : List Bool) (k u : ℕ) → u ≢ suc k → place_in bs u ≡ true → place_in (set bs k false) u ≡ true
set_kept bs k zero ne h = h
set_kept bs k (suc u) ne h = let ne' : u ≢ k = omega arith in get_or-set_other bs k u false false ne' ∙ h

pub in_others : (bs : List Bool) (s u : ℕ) → 1 ≤ s → u ≢ s → place_in bs u ≡ true → place_in (set bs (s - 1) false) u ≡ true
in_others bs zero u l ne h = absurd (omega arith)
in_others bs (suc k) u l ne h = subst (λ (n : ℕ). place_in (set bs n false) u ≡ true) (let q : k ≡ suc k - 1 = omega arith in q) (set_kept bs k u ne h)

-- a place that is there, from n on: then a first one is found, and not past it
next_found : (k n : ℕ) (bs : List Bool) (j : ℕ) → get_or bs j false ≡ true → n ≤ k + j → (r : ℕ) × (next_at k n bs ≡ Some r) × (r ≤ k + j)
next_found k n [] j h l = absurd (false≢true h)
next_found k n (b ∷ bs) zero h l = (k, ap (λ (x : Bool). if x && nat_le n k then Some k else next_at (suc k) n bs) h ∙ ap (λ (x : Bool). if x then Some k else next_at (suc k) n bs) (le-leb n k (omega arith)), omega arith)
next_found k n (b ∷ bs) (suc j) h l = elim (cases_Bool (b && nat_le n k)) [
  | inl e ↦ (k, ap (λ (x : Bool). if x then Some k else next_at (suc k) n bs) e, omega arith)
  | inr e ↦ let y = next_found (suc k) n bs j h (omega arith) in (y.0, ap (λ (x : Bool). if x then Some k else next_at (suc k) n bs) e ∙ y.1, omega (arith, y.2))
]

pub next_is_found : (n : ℕ) (bs : List Bool) (s : ℕ) → place_in bs s ≡ true → n ≤ s → (r : ℕ) × (next_place n bs ≡ Some r) × (r ≤ s)
next_is_found n bs zero h l = absurd (false≢true h)
next_is_found n bs (suc j) h l = let y = next_found 1 n bs j h (omega arith) in (y.0, y.1, omega (arith, y.2))

-- ---- tuples

pub tuple_set : (t : Tuple) (S : State) (o : ℕ) (r : Reach) → TupleIn t S → (o < length S → SpotIn (spot t o) r) → TupleIn t (set S o r)
tuple_set t S o r i h = record {
  objects = i.objects ∙ sym (length-set S o r);
  each = λ u b. elim (cases_eq u o) [
    | inl e ↦ let b' : o < length S = omega (arith, length-set S o r) in
        subst (λ (v : ℕ). SpotIn (spot t v) (reach (set S o r) v)) (sym e) (subst (SpotIn (spot t o)) (sym (get_or-set_same S o r nowhere b')) (h b'))
    | inr ne ↦ subst (SpotIn (spot t u)) (sym (get_or-set_other S o u r nowhere ne)) (i.each u (omega (arith, length-set S o r)))
  ];
}

spot_half : (half : Half) (p : Spot) (r : Reach) → HasPlace half → SpotIn p r → SpotIn p (first_part half r) ⊎ SpotIn p (second_part half r)
spot_half (OfPlace s) p r here i = elim (cases_eq p.place s) [
  | inl e ↦ inl (record { place = subst (λ (v : ℕ). place_in (alone v r.places) p.place ≡ true) e (in_alone r.places p.place i.place); origin = i.origin })
  | inr ne ↦ inr (record { place = in_others r.places s p.place here ne i.place; origin = i.origin })
]
spot_half (OfSide side) p r here i = elim (in_part side p.origin r.region i.origin) [
  | inl b ↦ inl (record { place = i.place; origin = b })
  | inr b ↦ inr (record { place = i.place; origin = b })
]

-- a tuple inside a state is inside one of the two that a split makes of it
pub tuple_half : (half : Half) (t : Tuple) (S : State) (o : ℕ) → HasPlace half → TupleIn t S → TupleIn t (change (first_part half) S o) ⊎ TupleIn t (change (second_part half) S o)
tuple_half half t S o here i = elim (cases_lt o (length S)) [
  | inl b ↦ elim (spot_half half (spot t o) (reach S o) here (i.each o b)) [
    | inl h ↦ inl (tuple_set t S o (first_part half (reach S o)) i (λ _. h))
    | inr h ↦ inr (tuple_set t S o (second_part half (reach S o)) i (λ _. h))
  ]
  | inr b ↦ inl (subst (TupleIn t) (sym (set_past S o (first_part half (reach S o)) b)) i)
]
