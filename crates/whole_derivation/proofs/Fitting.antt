-- What a derivation names: it exists on each wider state, and what holds names what exists.
use Rattle.std.proofs.Common.{◌≡◌, ℕ, zero, suc, ◌+◌, ◌-◌, ◌<◌, ◌≤◌, Bool, true, false, ◌&&◌, List, [], ◌∷◌, length, get_or, set, map, refl, sym, ap, ◌∙◌, subst, inl, inr, arith, Option, Some, None}
use Rattle.std.specs.Prelude.{nat_le, if◌then◌else◌, slice_get}
use Rattle.std.proofs.lemmas.Bool.{cases_lt, cases_eq, cases_Bool, false≢true, and_parts, eqb-true}
use Rattle.std.proofs.lemmas.List.{get_or_past, get_or-set_same, get_or-set_other, set_past}
use Rattle.std.proofs.lemmas.Option.{slice_get_within}
use Rattle.std.proofs.Math.ListN.{length-set}
use Rattle.geo_conditions.specs.declared.cond.Cond.{Cond}
use Rattle.geo_conditions.specs.Reach.{State, Reach, Region, reach, nowhere, has, place_in, dims}
use Rattle.geo_conditions.proofs.Greatest.{set_false}
use Rattle.derivation.specs.declared.side.Side.TheVariants.{Upto, From}
use Rattle.derivation.specs.declared.half.Half.{Half}
use Rattle.derivation.specs.declared.half.Half.TheVariants.{OfPlace, OfSide}
use Rattle.derivation.specs.Covers.{IsCut, HasNumbersIn, is_refuted, refutes, covers}
use Rattle.derivation.specs.PlaceCovers.{PlaceCover, next_at, next_place, is_that, all_cover, HaveNumbersIn}
use Rattle.derivation.specs.Nodes.{Node, Split, DropNode, Bound, GoneNode, DeadNode}
use Rattle.derivation.specs.Valid.{alone, first_part, second_part, change}
use Rattle.whole_derivation.specs.Whole.{HalfFits, CoversFit, NodeFits}

-- T has the objects and dimensions of S, and no place that S has not
pub record NoMore (T S : State) : Type 0 where
  pub objects : length T ≡ length S
  pub places : (o s : ℕ) → has T o s ≡ true → has S o s ≡ true
  pub dims : (o : ℕ) → dims T o ≡ dims S o

-- ---- the parts of a split, and what a link leaves

no_more_set : (S : State) (o : ℕ) (r : Reach) → ((s : ℕ) → place_in r.places s ≡ true → has S o s ≡ true) → length r.region.lo ≡ dims S o → NoMore (set S o r) S
no_more_set S o r f e = record {
  objects = length-set S o r;
  places = λ u s h. elim (cases_eq u o) [
    | inl same ↦ elim (cases_lt o (length S)) [
      | inl b ↦ subst (λ (v : ℕ). has S v s ≡ true) (sym same) (f s (sym (ap (λ (q : Reach). place_in q.places s) (ap (reach (set S o r)) same ∙ get_or-set_same S o r nowhere b)) ∙ h))
      | inr b ↦ sym (ap (λ (T : State). has T u s) (set_past S o r b)) ∙ h
    ]
    | inr other ↦ sym (ap (λ (q : Reach). place_in q.places s) (get_or-set_other S o u r nowhere other)) ∙ h
  ];
  dims = λ u. elim (cases_eq u o) [
    | inl same ↦ elim (cases_lt o (length S)) [
      | inl b ↦ ap (λ (q : Reach). length q.region.lo) (ap (reach (set S o r)) same ∙ get_or-set_same S o r nowhere b) ∙ e ∙ ap (dims S) (sym same)
      | inr b ↦ ap (λ (T : State). dims T u) (set_past S o r b)
    ]
    | inr other ↦ ap (λ (q : Reach). length q.region.lo) (get_or-set_other S o u r nowhere other)
  ];
}

pub none_in : (places : List Bool) (k : ℕ) → get_or (map (λ _. false) places) k false ≡ false
none_in [] k = refl
none_in (b ∷ places) zero = refl
none_in (b ∷ places) (suc k) = none_in places k

pub length_none : (places : List Bool) → length (map (λ _. false) places) ≡ length places
length_none [] = refl
length_none (b ∷ places) = ap suc (length_none places)

alone_in : (s : ℕ) (places : List Bool) (u : ℕ) → place_in (alone s places) u ≡ true → place_in places u ≡ true
alone_in zero places zero h = absurd (false≢true h)
alone_in zero places (suc k) h = absurd (false≢true (sym (none_in places k) ∙ h))
alone_in (suc j) places zero h = absurd (false≢true h)
alone_in (suc j) places (suc k) h = elim (cases_eq k j) [
  | inl same ↦ elim (cases_lt j (length places)) [
    | inl b ↦ ap (λ (i : ℕ). get_or places i false) same ∙ sym (get_or-set_same (map (λ _. false) places) j (get_or places j false) false (subst (λ (n : ℕ). j < n) (sym (length_none places)) b)) ∙ subst (λ (i : ℕ). get_or (set (map (λ _. false) places) j (get_or places j false)) i false ≡ true) same h
    | inr b ↦ absurd (false≢true (sym (none_in places k) ∙ sym (ap (λ (xs : List Bool). get_or xs k false) (set_past (map (λ _. false) places) j (get_or places j false) (subst (λ (n : ℕ). n ≤ j) (sym (length_none places)) b))) ∙ h))
  ]
  | inr other ↦ absurd (false≢true (sym (none_in places k) ∙ sym (get_or-set_other (map (λ _. false) places) j k (get_or places j false) false other) ∙ h))
]

pub no_more_first : (half : Half) (S : State) (o : ℕ) → NoMore (change (first_part half) S o) S
no_more_first (OfPlace s) S o = no_more_set S o _ (λ u h. alone_in s (reach S o).places u h) refl
no_more_first (OfSide (Upto d v)) S o = no_more_set S o _ (λ u h. h) refl
no_more_first (OfSide (From d v)) S o = no_more_set S o _ (λ u h. h) (length-set (reach S o).region.lo d _)

pub no_more_second : (half : Half) (S : State) (o : ℕ) → NoMore (change (second_part half) S o) S
no_more_second (OfPlace s) S o = no_more_set S o _ (λ u h. set_false (reach S o).places (s - 1) u h) refl
no_more_second (OfSide (Upto d v)) S o = no_more_set S o _ (λ u h. h) (length-set (reach S o).region.lo d _)
no_more_second (OfSide (From d v)) S o = no_more_set S o _ (λ u h. h) refl

-- ---- what exists on the smaller state exists on the wider one

module _ (S T : State) (w : NoMore T S) (m : ℕ) where
  covers_wider : (o : ℕ) (list : List PlaceCover) → CoversFit T m o list → CoversFit S m o list
  covers_wider o [] h = tt
  covers_wider o (c ∷ more) h = (w.places o c.place h.0, subst (λ (k : ℕ). HasNumbersIn k m c.tree) (w.dims o) h.1, covers_wider o more h.2)

  half_wider : (o : ℕ) (half : Half) → HalfFits T o half → HalfFits S o half
  half_wider o (OfPlace s) h = w.places o s h
  half_wider o (OfSide side) h = (omega (arith, w.objects, h.0), subst (λ (k : ℕ). IsCut k side) (w.dims o) h.1)

  pub fits_wider : (n : Node) → NodeFits T m n → NodeFits S m n
  fits_wider (Split o half a b) h = (half_wider o half h.0, fits_wider a h.1, fits_wider b h.2)
  fits_wider (DropNode o s tree rest) h = (w.places o s h.0, subst (λ (k : ℕ). HasNumbersIn k m tree) (w.dims o) h.1, fits_wider rest h.2)
  fits_wider (Bound o side list rest) h = (omega (arith, w.objects, h.0), subst (λ (k : ℕ). IsCut k side) (w.dims o) h.1, covers_wider o list h.2, fits_wider rest h.3)
  fits_wider (GoneNode o list) h = (omega (arith, w.objects, h.0), covers_wider o list h.1)
  fits_wider (DeadNode i) h = h

-- ---- what a list of covers names, and the number of a refuted condition

found_at : (k n : ℕ) (bs : List Bool) (s : ℕ) → next_at k n bs ≡ Some s → (j : ℕ) × (s ≡ k + j) × (get_or bs j false ≡ true)
found_at k n [] s e = absurd (cc)
found_at k n (b ∷ bs) s e = elim (cases_Bool (b && nat_le n k)) [
  | inl here ↦
      let f : Some k ≡ Some s = sym (ap (λ (x : Bool). if x then Some k else next_at (suc k) n bs) here) ∙ e in
      let g : k ≡ s = cc in
      (0, omega (arith, g), (and_parts b (nat_le n k) here).0)
  | inr behind ↦
      let p = found_at (suc k) n bs s (sym (ap (λ (x : Bool). if x then Some k else next_at (suc k) n bs) behind) ∙ e) in
      (suc p.0, omega (arith, p.1), p.2)
]

place_found : (n : ℕ) (bs : List Bool) (s : ℕ) → next_place n bs ≡ Some s → place_in bs s ≡ true
place_found n bs s e = let p = found_at 1 n bs s e in subst (λ (u : ℕ). place_in bs u ≡ true) (let q : suc p.0 ≡ s = omega (arith, p.1) in q) p.2

that_one : (f : Option ℕ) (s : ℕ) → is_that f s ≡ true → f ≡ Some s
that_one None s h = absurd (false≢true h)
that_one (Some r) s h = ap (λ (n : ℕ). Some n) (eqb-true r s h)

pub covers_fit : (cs : List Cond) (S : State) (o : ℕ) (b : Region) (n : ℕ) (list : List PlaceCover) → all_cover cs S o b n list ≡ true → HaveNumbersIn (dims S o) (length cs) list → CoversFit S (length cs) o list
covers_fit cs S o b n [] h k = tt
covers_fit cs S o b n (c ∷ more) h k =
    let q = and_parts (is_that (next_place n (reach S o).places) c.place) (covers cs S o c.place b c.tree && all_cover cs S o b (c.place + 1) more) h in
    let r = and_parts (covers cs S o c.place b c.tree) (all_cover cs S o b (c.place + 1) more) q.1 in
    (place_found n (reach S o).places c.place (that_one (next_place n (reach S o).places) c.place q.0), k.0, covers_fit cs S o b (c.place + 1) more r.1 k.1)

refuted_there : (cs : List Cond) (i : ℕ) (S : State) (f : Option Cond) → slice_get cs i ≡ f → is_refuted f S ≡ true → suc i ≤ length cs
refuted_there cs i S None e h = absurd (false≢true h)
refuted_there cs i S (Some c) e h = let l : i < length cs = slice_get_within cs i c e in omega (arith, l)

pub number_fits : (cs : List Cond) (i : ℕ) (S : State) → refutes cs i S ≡ true → i ≤ length cs
number_fits cs zero S h = absurd (false≢true h)
number_fits cs (suc i) S h = refuted_there cs i S (slice_get cs i) refl h
