-- A tuple as the state in which it is the only one.
use Rattle.std.proofs.Common.{◌≡◌, ℕ, zero, suc, ◌+◌, ◌<◌, Bool, true, false, not, eqb, List, [], ◌∷◌, length, get_or, refl, sym, ap, ◌∙◌, subst, inl, inr, arith, ℤ, pos, negsuc, ◌+ℤ◌, ◌*ℤ◌}
use Rattle.std.specs.List.{All}
use lib.Signed.{le_z}
use Rattle.std.proofs.lemmas.List.{get_or_past}
use Rattle.std.proofs.lemmas.Bool.{cases_Bool, eq-eqb, eqb-true, false_from_ne_true, false≢true, cases_lt}
use Rattle.geo_conditions.specs.declared.form.Term.{Term}
use Rattle.geo_conditions.specs.Form.{Sum}
use Rattle.geo_conditions.specs.declared.cond.Cond.{Cond, Lin, Shape, NotShape, AtLeast', Row_of-Cond, end_of-Cond, more_of-Cond}
use Rattle.geo_base.specs.Boxes.{coordinate}
use Rattle.geo_conditions.specs.Reach.{State, Reach, Tuple, spot, reach, nowhere, place_in, is_only, only, just, just_spot, just_this, count, InBox, Within, Inside, NotEmpty, HasNoEmpty, TupleIn, with_at}
use Rattle.geo_conditions.specs.Conditions.{least_product, sum_of, value, least_value, holds, how_many_hold, possible, how_many_possible, FitsIn, AllFitIn}
use Rattle.geo_conditions.specs.Supported.{NoneRefuted, Supports, IsSupported, IsGreatest}
use Rattle.geo_conditions.proofs.Sets.{only_self, only_same, only_in, only_out}
use Rattle.geo_conditions.proofs.Points.{at_only, place_from_1, point_within, point_not_empty, within_self, inside_put, in_just, unrefuted_wider}
use Rattle.geo_conditions.proofs.Monotone.{possible_wider}

pub reach_just : (t : Tuple) (o : ℕ) → reach (just_this t) o ≡ just_spot (spot t o)
reach_just [] o = refl
reach_just (p ∷ t) zero = refl
reach_just (p ∷ t) (suc o) = reach_just t o

pub length_just : (t : Tuple) → length (just_this t) ≡ length t
length_just [] = refl
length_just (p ∷ t) = ap suc (length_just t)

-- the place of a tuple's object is the one place of its state
pub has_only : (p s : ℕ) → 0 < p → place_in (only p) s ≡ eqb p s
has_only p s h = elim (cases_Bool (eqb p s)) [
  | inl e ↦ subst (λ (v : ℕ). place_in (only p) v ≡ true) (eqb-true p s e) (only_self p h) ∙ sym e
  | inr e ↦ false_from_ne_true (place_in (only p) s) (λ k. false≢true (sym e ∙ eq-eqb p s (sym (only_same p s k)))) ∙ sym e
]

is_only_only : (p s : ℕ) → 0 < p → is_only (only p) s ≡ eqb p s
is_only_only p s h = elim (cases_Bool (eqb p s)) [
  | inl e ↦ only_in (only p) s (has_only p s h ∙ e) (λ u k. only_same p u k ∙ eqb-true p s e) ∙ sym e
  | inr e ↦ false_from_ne_true (is_only (only p) s) (λ k. false≢true (sym e ∙ sym (has_only p s h) ∙ (only_out (only p) s k).0)) ∙ sym e
]

least_product_just : (a x : ℤ) → least_product a x x ≡ a *ℤ x
least_product_just (pos n) x = refl
least_product_just (negsuc n) x = refl

sum_same : (f g : Term → ℤ) (ts : List Term) → ((a : Term) → f a ≡ g a) → sum_of f ts ≡ sum_of g ts
sum_same f g [] h = refl
sum_same f g (a ∷ ts) h = ap (λ (x : ℤ). x +ℤ sum_of f ts) (h a) ∙ ap (λ (x : ℤ). g a +ℤ x) (sum_same f g ts h)

least_just : (f : Sum) (t : Tuple) → least_value f (just_this t) ≡ value f t
least_just f t = ap (λ (x : ℤ). f.constant +ℤ x) (sum_same _ _ f.terms (λ a.
    ap (λ (r : Reach). least_product a.factor (coordinate r.region.lo a.dimension) (coordinate r.region.hi a.dimension)) (reach_just t a.object.0)
    ∙ least_product_just a.factor (coordinate (spot t a.object.0).origin a.dimension)))

pub spot_from_1 : (t : Tuple) (S : State) (o : ℕ) → TupleIn t S → o < length S → 0 < (spot t o).place
spot_from_1 t S o h b = place_from_1 (reach S o).places (spot t o).place (h.each o b).place

mutual
  pub possible_just : (c : Cond) (t : Tuple) (S : State) → FitsIn c S → TupleIn t S → possible c (just_this t) ≡ holds c t
  possible_just (Lin f) t S n h = ap (λ (x : ℤ). le_z x (pos 0)) (least_just f t)
  possible_just (Shape o s) t S n h =
      ap (λ (r : Reach). place_in r.places s) (reach_just t o.0) ∙ has_only (spot t o.0).place s (spot_from_1 t S o.0 h n)
  possible_just (NotShape o s) t S n h =
      ap (λ (r : Reach). not (is_only r.places s)) (reach_just t o.0) ∙ ap not (is_only_only (spot t o.0).place s (spot_from_1 t S o.0 h n))
  possible_just (AtLeast' k shape cs) t S n h = ap (λ (x : ℕ). le_z k (pos x)) (how_many_just cs t S n h)

  pub how_many_just : {m : _} → (cs : Row_of-Cond m) (t : Tuple) (S : State) → AllFitIn cs S → TupleIn t S → how_many_possible cs (just_this t) ≡ how_many_hold cs t
  how_many_just end_of-Cond t S n h = refl
  how_many_just (more_of-Cond c cs) t S n h =
      ap (λ (b : Bool). count b + how_many_possible cs (just_this t)) (possible_just c t S n.0 h) ∙ ap (λ (x : ℕ). count (holds c t) + x) (how_many_just cs t S n.1 h)

-- the tuple's state lies inside each state in which the tuple is
pub just_inside : (t : Tuple) (S : State) → TupleIn t S → Inside (just_this t) S
just_inside t S h = record {
  objects = length_just t ∙ h.objects;
  each = λ o. elim (cases_lt o (length S)) [
    | inl b ↦ subst (λ (r : Reach). Within r (reach S o)) (sym (reach_just t o)) (point_within (reach S o) (spot t o).place (spot t o).origin (h.each o b).place (h.each o b).origin)
    | inr b ↦ let e : reach S o ≡ nowhere = get_or_past S o nowhere b in
        let e' : reach (just_this t) o ≡ nowhere = get_or_past (just_this t) o nowhere (omega (arith, length_just t, h.objects)) in
        subst (λ (r : Reach). Within r (reach S o)) (sym e') (subst (λ (r : Reach). Within nowhere r) (sym e) (within_self nowhere))
  ];
}

pub just_not_empty : (t : Tuple) (S : State) → TupleIn t S → HasNoEmpty (just_this t)
just_not_empty t S h o k =
    let k' : o < length S = omega (arith, length_just t, h.objects) in
    subst NotEmpty (sym (reach_just t o)) (point_not_empty (spot t o).place (spot t o).origin (spot_from_1 t S o h k'))

-- a condition that is refuted on a state is false on each tuple inside it
pub true_possible : (c : Cond) (t : Tuple) (S : State) → FitsIn c S → TupleIn t S → holds c t ≡ true → possible c S ≡ true
true_possible c t S n h k =
    possible_wider c (just_this t) S (just_inside t S h) (just_not_empty t S h) (possible_just c t S n h ∙ k)

pub refuted_false : (c : Cond) (t : Tuple) (S : State) → FitsIn c S → TupleIn t S → possible c S ≡ false → holds c t ≡ false
refuted_false c t S n h k = false_from_ne_true (holds c t) (λ l. false≢true (sym k ∙ true_possible c t S n h l))

-- the only place and the only point of an object of a tuple's state are its own, so the state with the object there is the state again
own : (t : Tuple) (o : ℕ) → at_only (spot t o).place (just (spot t o).origin) ≡ reach (just_this t) o
own t o = sym (reach_just t o)

-- a tuple on which every condition is true is supported
pub layout_supported : (cs : List Cond) (t : Tuple) (S : State) → All (λ c. FitsIn c S) cs → TupleIn t S → All (λ c. holds c t ≡ true) cs → IsSupported cs (just_this t)
layout_supported cs t S f h k =
    let n : HasNoEmpty (just_this t) = just_not_empty t S h in
    let each : NoneRefuted cs (just_this t) = λ i c b. possible_just (get_or cs i c) t S (f i c b) h ∙ k i c b in
    let own_point : (o : ℕ) → o < length (just_this t) → Supports cs (just_this t) o (spot t o).place (spot t o).origin = λ o b. record {
      place = ap (λ (r : Reach). place_in r.places (spot t o).place) (reach_just t o) ∙ only_self (spot t o).place (spot_from_1 t S o h (omega (arith, length_just t, h.objects)));
      point = subst (λ (r : Reach). InBox (spot t o).origin r.region) (sym (reach_just t o)) (in_just (spot t o).origin);
      unrefuted = unrefuted_wider cs (just_this t) (with_at (just_this t) o (spot t o).place (just (spot t o).origin)) (inside_put (just_this t) o (spot t o).place (just (spot t o).origin) b (own t o)) n each;
    } in
    record {
      nonempty = n;
      unrefuted = each;
      places = λ o s b l. ((spot t o).origin, subst (λ (v : ℕ). Supports cs (just_this t) o v (spot t o).origin) (sym (only_same (spot t o).place s (sym (ap (λ (r : Reach). place_in r.places s) (reach_just t o)) ∙ l))) (own_point o b));
      lows = λ o d b l. ((spot t o).place, (spot t o).origin, own_point o b, sym (ap (λ (r : Reach). coordinate r.region.lo d) (reach_just t o)));
      highs = λ o d b l. ((spot t o).place, (spot t o).origin, own_point o b, sym (ap (λ (r : Reach). coordinate r.region.hi d) (reach_just t o)));
    }

-- a layout inside a state is inside the greatest supported state in it
pub layout_in_greatest : (cs : List Cond) (t : Tuple) (S G : State) → All (λ c. FitsIn c S) cs → TupleIn t S → All (λ c. holds c t ≡ true) cs → IsGreatest cs S G → Inside (just_this t) G
layout_in_greatest cs t S G f h k g = g.greatest (just_this t) (layout_supported cs t S f h k) (just_inside t S h)

-- and so the tuple is inside it
pub tuple_from_just : (t : Tuple) (S : State) → ((o : ℕ) → o < length S → 0 < (spot t o).place) → Inside (just_this t) S → TupleIn t S
tuple_from_just t S p i = record {
  objects = sym (length_just t) ∙ i.objects;
  each = λ o b. let w : Within (just_spot (spot t o)) (reach S o) = subst (λ (r : Reach). Within r (reach S o)) (reach_just t o) (i.each o) in record {
    place = w.places (spot t o).place (only_self (spot t o).place (p o b));
    origin = record { same_lo = w.same_lo; same_hi = w.same_hi; above = w.lows; below = w.highs };
  };
}
