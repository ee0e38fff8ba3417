-- A valid derivation shows that no tuple inside its state makes every condition true.
use Rattle.std.proofs.Common.{◌≡◌, ℕ, zero, suc, ◌+◌, ◌<◌, ◌≤◌, Bool, true, ◌&&◌, List, [], ◌∷◌, ◌++◌, length, refl, sym, ap, ◌∙◌, subst, inl, inr, arith, Option, Some, None, length-append}
use Rattle.std.specs.Prelude.{slice_get}
use Rattle.std.specs.List.{All}
use Rattle.std.proofs.lemmas.List.Elements.{All-head, All-tail}
use Rattle.std.proofs.lemmas.List.{get_or_append_left}
use Rattle.std.proofs.lemmas.Bool.{cases_eq, false≢true, or_cases, and_parts, eqb-true, not-true}
use Rattle.std.proofs.Math.ListN.{length-set}
use Rattle.geo_conditions.specs.declared.cond.Cond.{Cond}
use Rattle.geo_conditions.specs.Reach.{State, Region, Tuple, InBox, TupleIn, reach, spot, with_at, only}
use Rattle.geo_conditions.specs.Conditions.{possible, holds, FitsIn}
use Rattle.geo_conditions.proofs.Sets.{only_self}
use Rattle.geo_conditions.proofs.Tuples.{spot_from_1, true_possible}
use Rattle.derivation.specs.declared.half.Half.{Half}
use Rattle.derivation.specs.declared.half.Half.TheVariants.{OfPlace, OfSide}
use Rattle.derivation.specs.Cuts.{near, far, is_empty}
use Rattle.derivation.specs.Covers.{CoverTree, Leaf, Fork, is_refuted, refutes, covers}
use Rattle.derivation.specs.PlaceCovers.{PlaceCover, is_that, is_nothing, all_cover, next_place}
use Rattle.derivation.specs.Nodes.{Node, Split, DropNode, Bound, GoneNode, DeadNode, IsOver}
use Rattle.derivation.specs.Valid.{first_part, second_part, change, rows, Valid}
use Rattle.derivation.proofs.Leaves.{all_at}
use Rattle.derivation_check.specs.Sound.{HasPlaces, Solves}
use Rattle.derivation_check.proofs.SameDims.{same_set, same_first, same_second, all_fit}
use Rattle.derivation_check.proofs.Parts.{in_part, empty_no_point, in_others, next_is_found, tuple_set, tuple_half}

refuted_false : (cs : List Cond) (S : State) (t : Tuple) (i : ℕ) (f : Option Cond) → Solves cs S t → slice_get cs i ≡ f → is_refuted f S ≡ true → ⊥
refuted_false cs S t i None s e h = false≢true h
refuted_false cs S t i (Some c) s e h =
    let fits = all_at (λ x. FitsIn x S) cs i c s.fits e in
    let true_on = all_at (λ x. holds x t ≡ true) cs i c s.holds e in
    false≢true (sym (not-true (possible c S) h) ∙ true_possible c t S fits s.inside true_on)

-- where there is a solution, no condition is refuted
pub solved_none : (cs : List Cond) (S : State) (t : Tuple) (i : ℕ) → Solves cs S t → refutes cs i S ≡ true → ⊥
solved_none cs S t zero s h = false≢true h
solved_none cs S t (suc i) s h = refuted_false cs S t i (slice_get cs i) s refl h

solves_at : (cs : List Cond) (S : State) (t : Tuple) (o : ℕ) (b : Region) → o < length S → Solves cs S t → InBox (spot t o).origin b → Solves cs (with_at S o (spot t o).place b) t
solves_at cs S t o b l s i =
    let here = s.inside.each o l in
    record {
      fits = all_fit cs S (with_at S o (spot t o).place b) (same_set S o (record { places = only (spot t o).place; region = b }) (sym i.same_lo ∙ here.origin.same_lo)) s.fits;
      inside = tuple_set t S o (record { places = only (spot t o).place; region = b }) s.inside (λ _. record { place = only_self (spot t o).place (spot_from_1 t S o s.inside l); origin = i });
      holds = s.holds;
    }

-- a box that is covered has no solution's point at that place
pub covered_none : (cs : List Cond) (S : State) (t : Tuple) (o : ℕ) (b : Region) (tree : CoverTree) → o < length S → Solves cs S t → InBox (spot t o).origin b
    → covers cs S o (spot t o).place b tree ≡ true → ⊥
covered_none cs S t o b (Leaf i) l s p h = elim (or_cases (is_empty b) (refutes cs i (with_at S o (spot t o).place b)) h) [
  | inl e ↦ empty_no_point b (spot t o).origin e p
  | inr e ↦ solved_none cs (with_at S o (spot t o).place b) t i (solves_at cs S t o b l s p) e
]
covered_none cs S t o b (Fork side x y) l s p h = elim (or_cases (is_empty b) (covers cs S o (spot t o).place (near side b) x && covers cs S o (spot t o).place (far side b) y) h) [
  | inl e ↦ empty_no_point b (spot t o).origin e p
  | inr e ↦ let parts = and_parts (covers cs S o (spot t o).place (near side b) x) (covers cs S o (spot t o).place (far side b) y) e in
      elim (in_part side (spot t o).origin b p) [
        | inl q ↦ covered_none cs S t o (near side b) x l s q parts.0
        | inr q ↦ covered_none cs S t o (far side b) y l s q parts.1
      ]
]

none_after : (f : Option ℕ) (r : ℕ) → is_nothing f ≡ true → f ≡ Some r → ⊥
none_after f r h e = false≢true (sym (ap is_nothing e) ∙ h)

that_one : (f : Option ℕ) (r s : ℕ) → is_that f s ≡ true → f ≡ Some r → r ≡ s
that_one f r s h e = eqb-true r s (sym (ap (λ (x : Option ℕ). is_that x s) e) ∙ h)

-- a list of covers of a box names the solution's place, so its point is not in the box
pub all_covered_none : (cs : List Cond) (S : State) (t : Tuple) (o : ℕ) (b : Region) (n : ℕ) (ns : List PlaceCover) → o < length S → Solves cs S t → InBox (spot t o).origin b
    → n ≤ (spot t o).place → all_cover cs S o b n ns ≡ true → ⊥
all_covered_none cs S t o b n [] l s p m h =
    let y = next_is_found n (reach S o).places (spot t o).place (s.inside.each o l).place m in
    none_after (next_place n (reach S o).places) y.0 h y.1
all_covered_none cs S t o b n (c ∷ ns) l s p m h =
    let y = next_is_found n (reach S o).places (spot t o).place (s.inside.each o l).place m in
    let q = and_parts (is_that (next_place n (reach S o).places) c.place) (covers cs S o c.place b c.tree && all_cover cs S o b (c.place + 1) ns) h in
    let r = and_parts (covers cs S o c.place b c.tree) (all_cover cs S o b (c.place + 1) ns) q.1 in
    let e : y.0 ≡ c.place = that_one (next_place n (reach S o).places) y.0 c.place q.0 y.1 in
    elim (cases_eq (spot t o).place c.place) [
      | inl here ↦ covered_none cs S t o b c.tree l s p (subst (λ (v : ℕ). covers cs S o v b c.tree ≡ true) (sym here) r.0)
      | inr other ↦ all_covered_none cs S t o b (c.place + 1) ns l s p (omega (arith, y.2, e)) r.1
    ]

-- ---- lists of rows that are all true

valid_left : (xs ys : List Bool) → All (λ b. b ≡ true) (xs ++ ys) → All (λ b. b ≡ true) xs
valid_left xs ys h = λ k d l. sym (get_or_append_left xs ys d k l) ∙ h k d (omega (arith, length-append xs ys))

valid_right : (xs ys : List Bool) → All (λ b. b ≡ true) (xs ++ ys) → All (λ b. b ≡ true) ys
valid_right [] ys h = h
valid_right (x ∷ xs) ys h = valid_right xs ys (All-tail (λ b. b ≡ true) x (xs ++ ys) h)

is_row : (b : Bool) (bs : List Bool) → All (λ x. x ≡ true) (b ∷ bs) → b ≡ true
is_row b bs h = All-head (λ x. x ≡ true) b bs h

others : (b : Bool) (bs : List Bool) → All (λ x. x ≡ true) (b ∷ bs) → All (λ x. x ≡ true) bs
others b bs h = All-tail (λ x. x ≡ true) b bs h

solves_first : (cs : List Cond) (S : State) (t : Tuple) (half : Half) (o : ℕ) → Solves cs S t → TupleIn t (change (first_part half) S o) → Solves cs (change (first_part half) S o) t
solves_first cs S t half o s i = record { fits = all_fit cs S (change (first_part half) S o) (same_first half S o) s.fits; inside = i; holds = s.holds }

solves_second : (cs : List Cond) (S : State) (t : Tuple) (half : Half) (o : ℕ) → Solves cs S t → TupleIn t (change (second_part half) S o) → Solves cs (change (second_part half) S o) t
solves_second cs S t half o s i = record { fits = all_fit cs S (change (second_part half) S o) (same_second half S o) s.fits; inside = i; holds = s.holds }

-- on a valid node's state there is no solution
pub sound : (cs : List Cond) (n : Node) (S : State) (t : Tuple) → IsOver (length S) n → HasPlaces n → Valid cs S n → Solves cs S t → ⊥
sound cs (Split o half a b) S t over places v s =
    let S1 = change (first_part half) S o in
    let S2 = change (second_part half) S o in
    let both = others true (rows cs S1 a ++ rows cs S2 b) v in
    elim (tuple_half half t S o places.0 s.inside) [
      | inl i ↦ sound cs a S1 t (subst (λ (m : ℕ). IsOver m a) (sym (length-set S o (first_part half (reach S o)))) over.1) places.1 (valid_left (rows cs S1 a) (rows cs S2 b) both) (solves_first cs S t half o s i)
      | inr i ↦ sound cs b S2 t (subst (λ (m : ℕ). IsOver m b) (sym (length-set S o (second_part half (reach S o)))) over.2) places.2 (valid_right (rows cs S1 a) (rows cs S2 b) both) (solves_second cs S t half o s i)
    ]
sound cs (DropNode o p tree n) S t over places v s =
    let S2 = change (second_part (OfPlace p)) S o in
    let here = s.inside.each o over.0 in
    elim (cases_eq (spot t o).place p) [
      | inl e ↦ covered_none cs S t o (reach S o).region tree over.0 s here.origin (subst (λ (x : ℕ). covers cs S o x (reach S o).region tree ≡ true) (sym e) (is_row _ (rows cs S2 n) v))
      | inr ne ↦ sound cs n S2 t (subst (λ (m : ℕ). IsOver m n) (sym (length-set S o (second_part (OfPlace p) (reach S o)))) over.1) places.1 (others _ (rows cs S2 n) v)
          (solves_second cs S t (OfPlace p) o s (tuple_set t S o (second_part (OfPlace p) (reach S o)) s.inside (λ _. record { place = in_others (reach S o).places p (spot t o).place places.0 ne here.place; origin = here.origin })))
    ]
sound cs (Bound o side ns n) S t over places v s =
    let S1 = change (first_part (OfSide side)) S o in
    let here = s.inside.each o over.0 in
    elim (in_part side (spot t o).origin (reach S o).region here.origin) [
      | inl i ↦ sound cs n S1 t (subst (λ (m : ℕ). IsOver m n) (sym (length-set S o (first_part (OfSide side) (reach S o)))) over.1) places (others _ (rows cs S1 n) v)
          (solves_first cs S t (OfSide side) o s (tuple_set t S o (first_part (OfSide side) (reach S o)) s.inside (λ _. record { place = here.place; origin = i })))
      | inr i ↦ all_covered_none cs S t o (far side (reach S o).region) 1 ns over.0 s i (spot_from_1 t S o s.inside over.0) (is_row _ (rows cs S1 n) v)
    ]
sound cs (GoneNode o ns) S t over places v s = all_covered_none cs S t o (reach S o).region 1 ns over s (s.inside.each o over).origin (spot_from_1 t S o s.inside over) (is_row _ [] v)
sound cs (DeadNode i) S t over places v s = solved_none cs S t i s (is_row _ [] v)
