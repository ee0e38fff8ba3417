-- What is possible with an object in a box is possible with it in a wider box, whatever is empty.
use Rattle.std.proofs.Common.{◌≡◌, ℕ, ◌<◌, ◌≤◌, Bool, true, not, List, [], ◌∷◌, length, sym, ap, ◌∙◌, subst, inl, inr, arith, ℤ, pos, ◌≤ℤ◌}
use Rattle.std.specs.List.{All}
use Rattle.std.proofs.lemmas.Int.{ints}
use Rattle.std.proofs.lemmas.Bool.{cases_eq, false≢true, false_from_ne_true}
use Rattle.std.proofs.lemmas.List.Elements.{All-head, All-tail}
use borrow.Author.Differences.{at_most_in}
use Rattle.geo_base.specs.Boxes.{coordinate}
use Rattle.geo_conditions.specs.declared.form.Term.{Term}
use Rattle.geo_conditions.specs.declared.cond.Cond.{Cond, Lin, Shape, NotShape, AtLeast', Row_of-Cond, end_of-Cond, more_of-Cond}
use Rattle.geo_conditions.specs.Reach.{State, Reach, Region, reach, low, high, dims, is_only, place_in, count, with_at, Exists}
use Rattle.geo_conditions.specs.Conditions.{sum_of, least_term, least_value, possible, how_many_possible, FitsIn, AllFitIn, IsRefuted}
use Rattle.geo_conditions.proofs.Monotone.{add_le, least_product_le, test_le, count_le}
use Rattle.geo_conditions.proofs.Points.{reach_same, reach_other}

-- S has the places of T, and each interval of an object and dimension of X lies inside that of T
record IsNarrower (X S T : State) : Type 0 where
  places : (o : ℕ) → (reach S o).places ≡ (reach T o).places
  ranges : (o d : ℕ) → Exists X o d → (low T o d ≤ℤ low S o d) × (high S o d ≤ℤ high T o d)

sum_all_le : (f g : Term → ℤ) (P : Term → Type 0) (ts : List Term) → All P ts → ((t : Term) → P t → f t ≤ℤ g t) → sum_of f ts ≤ℤ sum_of g ts
sum_all_le f g P [] a h = omega (arith, ints)
sum_all_le f g P (t ∷ ts) a h = add_le (f t) (g t) (sum_of f ts) (sum_of g ts) (h t (All-head P t ts a)) (sum_all_le f g P ts (All-tail P t ts a) h)

mutual
  possible_of : (c : Cond) (X S T : State) → FitsIn c X → IsNarrower X S T → possible c S ≡ true → possible c T ≡ true
  possible_of (Lin f) X S T a n h = test_le (least_value f S) (pos 0) (least_value f T) (pos 0) h
      (add_le f.constant f.constant _ _ (omega (arith, ints)) (sum_all_le (least_term T) (least_term S) (λ t. Exists X t.object.0 t.dimension) f.terms a
      (λ t e. let r = n.ranges t.object.0 t.dimension e in least_product_le t.factor (low S t.object.0 t.dimension) (high S t.object.0 t.dimension) (low T t.object.0 t.dimension) (high T t.object.0 t.dimension) r.0 r.1)))
      (omega (arith, ints))
  possible_of (Shape o s) X S T a n h = subst (λ (bs : List Bool). place_in bs s ≡ true) (n.places o.0) h
  possible_of (NotShape o s) X S T a n h = subst (λ (bs : List Bool). not (is_only bs s) ≡ true) (n.places o.0) h
  possible_of (AtLeast' k shape cs) X S T a n h =
      test_le k (pos (how_many_possible cs S)) k (pos (how_many_possible cs T)) h (omega (arith, ints)) (at_most_in (pos (how_many_possible cs S)) (pos (how_many_possible cs T)) (omega (arith, how_many_of cs X S T a n)))

  how_many_of : {m : _} → (cs : Row_of-Cond m) (X S T : State) → AllFitIn cs X → IsNarrower X S T → how_many_possible cs S ≤ how_many_possible cs T
  how_many_of end_of-Cond X S T a n = omega arith
  how_many_of (more_of-Cond c cs) X S T a n =
      let h : count (possible c S) ≤ count (possible c T) = count_le (possible c S) (possible c T) (possible_of c X S T a.0 n) in
      omega (arith, how_many_of cs X S T a.1 n)

put_narrower : (S : State) (o s : ℕ) (c b : Region) → o < length S → ((d : ℕ) → d < dims S o → (coordinate b.lo d ≤ℤ coordinate c.lo d) × (coordinate c.hi d ≤ℤ coordinate b.hi d)) → IsNarrower S (with_at S o s c) (with_at S o s b)
put_narrower S o s c b there r = record {
  places = λ u. elim (cases_eq u o) [
    | inl e ↦ subst (λ (v : ℕ). (reach (with_at S o s c) v).places ≡ (reach (with_at S o s b) v).places) (sym e)
        (ap (λ (x : Reach). x.places) (reach_same S o s c there) ∙ sym (ap (λ (x : Reach). x.places) (reach_same S o s b there)))
    | inr ne ↦ ap (λ (x : Reach). x.places) (reach_other S o s u c ne ∙ sym (reach_other S o s u b ne))
  ];
  ranges = λ u d e. elim (cases_eq u o) [
    | inl q ↦ subst (λ (v : ℕ). (low (with_at S o s b) v d ≤ℤ low (with_at S o s c) v d) × (high (with_at S o s c) v d ≤ℤ high (with_at S o s b) v d)) (sym q)
        (subst (λ (x : Reach). (coordinate x.region.lo d ≤ℤ low (with_at S o s c) o d) × (high (with_at S o s c) o d ≤ℤ coordinate x.region.hi d)) (sym (reach_same S o s b there))
        (subst (λ (x : Reach). (coordinate b.lo d ≤ℤ coordinate x.region.lo d) × (coordinate x.region.hi d ≤ℤ coordinate b.hi d)) (sym (reach_same S o s c there))
        (r d (subst (λ (v : ℕ). d < dims S v) q e.1))))
    | inr ne ↦ subst (λ (x : Reach). (coordinate x.region.lo d ≤ℤ low (with_at S o s c) u d) × (high (with_at S o s c) u d ≤ℤ coordinate x.region.hi d)) (sym (reach_other S o s u b ne))
        (subst (λ (x : Reach). (coordinate (reach S u).region.lo d ≤ℤ coordinate x.region.lo d) × (coordinate x.region.hi d ≤ℤ coordinate (reach S u).region.hi d)) (sym (reach_other S o s u c ne))
        (omega (arith, ints), omega (arith, ints)))
  ];
}

-- with the object in a wider box
pub possible_wider_box : (c : Cond) (S : State) (o s : ℕ) (inner b : Region) → FitsIn c S → o < length S → ((d : ℕ) → d < dims S o → (coordinate b.lo d ≤ℤ coordinate inner.lo d) × (coordinate inner.hi d ≤ℤ coordinate b.hi d))
    → possible c (with_at S o s inner) ≡ true → possible c (with_at S o s b) ≡ true
possible_wider_box c S o s inner b a there r h = possible_of c S (with_at S o s inner) (with_at S o s b) a (put_narrower S o s inner b there r) h

-- and what is refuted is refuted in a smaller box
pub refuted_smaller_box : (c : Cond) (S : State) (o s : ℕ) (inner b : Region) → FitsIn c S → o < length S → ((d : ℕ) → d < dims S o → (coordinate b.lo d ≤ℤ coordinate inner.lo d) × (coordinate inner.hi d ≤ℤ coordinate b.hi d))
    → IsRefuted c (with_at S o s b) → IsRefuted c (with_at S o s inner)
refuted_smaller_box c S o s inner b a there r h = false_from_ne_true (possible c (with_at S o s inner)) (λ k. false≢true (sym h ∙ possible_wider_box c S o s inner b a there r k))
