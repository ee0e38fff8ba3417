-- The join of two supported states is supported.
use Rattle.std.proofs.Common.{◌≡◌, ℕ, zero, suc, ◌<◌, Bool, true, false, cond, ◌||◌, List, [], ◌∷◌, length, refl, sym, ap, ◌∙◌, subst, inl, inr, ◌⊎◌, arith, ℤ, pos, ◌≤ℤ◌}
use Rattle.std.proofs.lemmas.Int.{ints}
use Rattle.std.proofs.lemmas.Bool.{cases_lt, cases_Bool, or_cases, or_left, or_right, cond-true, cond-false}
use Rattle.std.proofs.lemmas.List.{get_or_past}
use Rattle.std.proofs.Math.Bool.{or-false}
use lib.Signed.{le_z}
use borrow.Author.Differences.{le-true, le-false}
use Rattle.geo_conditions.specs.declared.cond.Cond.{Cond}
use Rattle.geo_base.specs.Boxes.{coordinate}
use Rattle.geo_conditions.specs.Reach.{State, Reach, IsState, nowhere, reach, has, low, high, place_in, Within, Inside, lesser, greater, pairwise, either, join_reach, join}
use Rattle.geo_conditions.specs.Supported.{IsSupported}
use Rattle.geo_conditions.proofs.Monotone.{le_trans}
use Rattle.geo_conditions.proofs.Points.{unrefuted_wider, supports_wider}

pub record Alike (r q : Reach) : Type 0 where
  pub lo : length r.region.lo ≡ length q.region.lo
  pub hi : length r.region.hi ≡ length q.region.hi

pub record SameShape (S T : State) : Type 0 where
  pub objects : length S ≡ length T
  pub each : (o : ℕ) → Alike (reach S o) (reach T o)

-- two states of as many objects in as many dimensions
pub same_shape : (k : ℕ) (S T : State) → IsState k S → IsState k T → length S ≡ length T → SameShape S T
same_shape k S T s t e = record {
  objects = e;
  each = λ o. elim (cases_lt o (length S)) [
    | inl b ↦ let c : o < length T = omega (arith, b, e) in
        record { lo = (s.dims o nowhere b).0 ∙ sym (t.dims o nowhere c).0; hi = (s.dims o nowhere b).1 ∙ sym (t.dims o nowhere c).1 }
    | inr b ↦ let x : reach S o ≡ nowhere = get_or_past S o nowhere b in
        let y : reach T o ≡ nowhere = get_or_past T o nowhere (omega (arith, b, e)) in
        record { lo = ap (λ (r : Reach). length r.region.lo) (x ∙ sym y); hi = ap (λ (r : Reach). length r.region.hi) (x ∙ sym y) }
  ];
}

pub place_either : (bs cs : List Bool) (s : ℕ) → place_in (either bs cs) s ≡ (place_in bs s || place_in cs s)
place_either [] cs zero = refl
place_either [] cs (suc s) = refl
place_either (b ∷ bs) [] zero = refl
place_either (b ∷ bs) [] (suc s) = sym (or-false (place_in (b ∷ bs) (suc s)))
place_either (b ∷ bs) (c ∷ cs) zero = refl
place_either (b ∷ bs) (c ∷ cs) (suc zero) = refl
place_either (b ∷ bs) (c ∷ cs) (suc (suc k)) = place_either bs cs (suc k)

pub pairwise_at : (f : ℤ → ℤ → ℤ) (xs ys : List ℤ) (d : ℕ) → length xs ≡ length ys → f (pos 0) (pos 0) ≡ pos 0 → coordinate (pairwise f xs ys) d ≡ f (coordinate xs d) (coordinate ys d)
pairwise_at f [] [] d h z = sym z
pairwise_at f [] (y ∷ ys) d h z = absurd (omega arith)
pairwise_at f (x ∷ xs) [] d h z = absurd (omega arith)
pairwise_at f (x ∷ xs) (y ∷ ys) zero h z = refl
pairwise_at f (x ∷ xs) (y ∷ ys) (suc d) h z = let h' : length xs ≡ length ys = omega arith in pairwise_at f xs ys d h' z

pub length_pairwise : (f : ℤ → ℤ → ℤ) (xs ys : List ℤ) → length xs ≡ length ys → length xs ≡ length (pairwise f xs ys)
length_pairwise f [] ys h = refl
length_pairwise f (x ∷ xs) [] h = absurd (omega arith)
length_pairwise f (x ∷ xs) (y ∷ ys) h = let h' : length xs ≡ length ys = omega arith in ap suc (length_pairwise f xs ys h')

pub lesser_left : (a b : ℤ) → lesser a b ≤ℤ a
lesser_left a b = elim (cases_Bool (le_z a b)) [
  | inl h ↦ subst (λ (x : ℤ). x ≤ℤ a) (sym (cond-true (le_z a b) a b h)) (omega (arith, ints))
  | inr h ↦ subst (λ (x : ℤ). x ≤ℤ a) (sym (cond-false (le_z a b) a b h)) (omega (arith, ints, le-false a b h))
]

pub lesser_right : (a b : ℤ) → lesser a b ≤ℤ b
lesser_right a b = elim (cases_Bool (le_z a b)) [
  | inl h ↦ subst (λ (x : ℤ). x ≤ℤ b) (sym (cond-true (le_z a b) a b h)) (omega (arith, ints, le-true a b h))
  | inr h ↦ subst (λ (x : ℤ). x ≤ℤ b) (sym (cond-false (le_z a b) a b h)) (omega (arith, ints))
]

pub greater_left : (a b : ℤ) → a ≤ℤ greater a b
greater_left a b = elim (cases_Bool (le_z a b)) [
  | inl h ↦ subst (λ (x : ℤ). a ≤ℤ x) (sym (cond-true (le_z a b) b a h)) (omega (arith, ints, le-true a b h))
  | inr h ↦ subst (λ (x : ℤ). a ≤ℤ x) (sym (cond-false (le_z a b) b a h)) (omega (arith, ints))
]

pub greater_right : (a b : ℤ) → b ≤ℤ greater a b
greater_right a b = elim (cases_Bool (le_z a b)) [
  | inl h ↦ subst (λ (x : ℤ). b ≤ℤ x) (sym (cond-true (le_z a b) b a h)) (omega (arith, ints))
  | inr h ↦ subst (λ (x : ℤ). b ≤ℤ x) (sym (cond-false (le_z a b) b a h)) (omega (arith, ints, le-false a b h))
]

cond_either : (b : Bool) (x y : ℤ) → (cond b x y ≡ x) ⊎ (cond b x y ≡ y)
cond_either true x y = inl refl
cond_either false x y = inr refl

pub reach_join : (S T : State) (o : ℕ) → length S ≡ length T → reach (join S T) o ≡ join_reach (reach S o) (reach T o)
reach_join [] [] o h = refl
reach_join [] (q ∷ T) o h = absurd (omega arith)
reach_join (r ∷ S) [] o h = absurd (omega arith)
reach_join (r ∷ S) (q ∷ T) zero h = refl
reach_join (r ∷ S) (q ∷ T) (suc o) h = let h' : length S ≡ length T = omega arith in reach_join S T o h'

pub length_join : (S T : State) → length S ≡ length T → length S ≡ length (join S T)
length_join [] [] h = refl
length_join [] (q ∷ T) h = absurd (omega arith)
length_join (r ∷ S) [] h = absurd (omega arith)
length_join (r ∷ S) (q ∷ T) h = let h' : length S ≡ length T = omega arith in ap suc (length_join S T h')

lo_at : (r q : Reach) (d : ℕ) → Alike r q → coordinate (join_reach r q).region.lo d ≡ lesser (coordinate r.region.lo d) (coordinate q.region.lo d)
lo_at r q d a = pairwise_at lesser r.region.lo q.region.lo d a.lo refl

hi_at : (r q : Reach) (d : ℕ) → Alike r q → coordinate (join_reach r q).region.hi d ≡ greater (coordinate r.region.hi d) (coordinate q.region.hi d)
hi_at r q d a = pairwise_at greater r.region.hi q.region.hi d a.hi refl

left_within : (r q : Reach) → Alike r q → Within r (join_reach r q)
left_within r q a = record {
  same_lo = length_pairwise lesser r.region.lo q.region.lo a.lo;
  same_hi = length_pairwise greater r.region.hi q.region.hi a.hi;
  places = λ s h. place_either r.places q.places s ∙ or_left (place_in r.places s) (place_in q.places s) h;
  lows = λ d. subst (λ (x : ℤ). x ≤ℤ coordinate r.region.lo d) (sym (lo_at r q d a)) (lesser_left _ _);
  highs = λ d. subst (λ (x : ℤ). coordinate r.region.hi d ≤ℤ x) (sym (hi_at r q d a)) (greater_left _ _);
}

right_within : (r q : Reach) → Alike r q → Within q (join_reach r q)
right_within r q a = record {
  same_lo = sym a.lo ∙ length_pairwise lesser r.region.lo q.region.lo a.lo;
  same_hi = sym a.hi ∙ length_pairwise greater r.region.hi q.region.hi a.hi;
  places = λ s h. place_either r.places q.places s ∙ or_right (place_in r.places s) (place_in q.places s) h;
  lows = λ d. subst (λ (x : ℤ). x ≤ℤ coordinate q.region.lo d) (sym (lo_at r q d a)) (lesser_right _ _);
  highs = λ d. subst (λ (x : ℤ). coordinate q.region.hi d ≤ℤ x) (sym (hi_at r q d a)) (greater_right _ _);
}

pub left_inside : (S T : State) → SameShape S T → Inside S (join S T)
left_inside S T a = record {
  objects = length_join S T a.objects;
  each = λ o. subst (λ (r : Reach). Within (reach S o) r) (sym (reach_join S T o a.objects)) (left_within (reach S o) (reach T o) (a.each o));
}

pub right_inside : (S T : State) → SameShape S T → Inside T (join S T)
right_inside S T a = record {
  objects = sym a.objects ∙ length_join S T a.objects;
  each = λ o. subst (λ (r : Reach). Within (reach T o) r) (sym (reach_join S T o a.objects)) (right_within (reach S o) (reach T o) (a.each o));
}

low_join : (S T : State) (o d : ℕ) → SameShape S T → (low (join S T) o d ≡ low S o d) ⊎ (low (join S T) o d ≡ low T o d)
low_join S T o d a =
    let e : low (join S T) o d ≡ lesser (low S o d) (low T o d) = ap (λ (r : Reach). coordinate r.region.lo d) (reach_join S T o a.objects) ∙ lo_at (reach S o) (reach T o) d (a.each o) in
    elim (cond_either (le_z (low S o d) (low T o d)) (low S o d) (low T o d)) [ inl h ↦ inl (e ∙ h) | inr h ↦ inr (e ∙ h) ]

high_join : (S T : State) (o d : ℕ) → SameShape S T → (high (join S T) o d ≡ high T o d) ⊎ (high (join S T) o d ≡ high S o d)
high_join S T o d a =
    let e : high (join S T) o d ≡ greater (high S o d) (high T o d) = ap (λ (r : Reach). coordinate r.region.hi d) (reach_join S T o a.objects) ∙ hi_at (reach S o) (reach T o) d (a.each o) in
    elim (cond_either (le_z (high S o d) (high T o d)) (high T o d) (high S o d)) [ inl h ↦ inl (e ∙ h) | inr h ↦ inr (e ∙ h) ]

has_join : (S T : State) (o s : ℕ) → SameShape S T → has (join S T) o s ≡ true → (has S o s ≡ true) ⊎ (has T o s ≡ true)
has_join S T o s a h =
    or_cases (has S o s) (has T o s) (sym (place_either (reach S o).places (reach T o).places s) ∙ sym (ap (λ (r : Reach). place_in r.places s) (reach_join S T o a.objects)) ∙ h)

-- the law
pub join_supported : (cs : List Cond) (S T : State) → SameShape S T → IsSupported cs S → IsSupported cs T → IsSupported cs (join S T)
join_supported cs S T a u v =
    let i : Inside S (join S T) = left_inside S T a in
    let j : Inside T (join S T) = right_inside S T a in
    let inS : (o : ℕ) → o < length (join S T) → o < length S = λ o h. subst (λ (n : ℕ). o < n) (sym i.objects) h in
    let inT : (o : ℕ) → o < length (join S T) → o < length T = λ o h. subst (λ (n : ℕ). o < n) (sym j.objects) h in
    record {
      nonempty = λ o h. let n = u.nonempty o (inS o h) in record {
        place = (n.place.0, (i.each o).places n.place.0 n.place.1);
        ranges = λ d. le_trans _ _ _ ((i.each o).lows d) (le_trans _ _ _ (n.ranges d) ((i.each o).highs d));
      };
      unrefuted = unrefuted_wider cs S (join S T) i u.nonempty u.unrefuted;
      places = λ o s h k. elim (has_join S T o s a k) [
        | inl l ↦ let w = u.places o s (inS o h) l in (w.0, supports_wider cs S (join S T) o s w.0 (inS o h) i u.nonempty w.1)
        | inr l ↦ let w = v.places o s (inT o h) l in (w.0, supports_wider cs T (join S T) o s w.0 (inT o h) j v.nonempty w.1)
      ];
      lows = λ o d h k. elim (low_join S T o d a) [
        | inl e ↦ let w = u.lows o d (inS o h) (subst (λ (n : ℕ). d < n) (sym (i.each o).same_lo) k) in (w.0, w.1, supports_wider cs S (join S T) o w.0 w.1 (inS o h) i u.nonempty w.2, w.3 ∙ sym e)
        | inr e ↦ let w = v.lows o d (inT o h) (subst (λ (n : ℕ). d < n) (sym (j.each o).same_lo) k) in (w.0, w.1, supports_wider cs T (join S T) o w.0 w.1 (inT o h) j v.nonempty w.2, w.3 ∙ sym e)
      ];
      highs = λ o d h k. elim (high_join S T o d a) [
        | inl e ↦ let w = v.highs o d (inT o h) (subst (λ (n : ℕ). d < n) (sym (j.each o).same_lo) k) in (w.0, w.1, supports_wider cs T (join S T) o w.0 w.1 (inT o h) j v.nonempty w.2, w.3 ∙ sym e)
        | inr e ↦ let w = u.highs o d (inS o h) (subst (λ (n : ℕ). d < n) (sym (i.each o).same_lo) k) in (w.0, w.1, supports_wider cs S (join S T) o w.0 w.1 (inS o h) i u.nonempty w.2, w.3 ∙ sym e)
      ];
    }
