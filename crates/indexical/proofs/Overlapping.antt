-- When the condition that two boxes do not overlap is refuted.
use Rattle.std.proofs.Common.{◌≡◌, not, ℕ, zero, suc, ◌+◌, ◌<◌, ◌≤◌, ◌^◌, inl, inr, Bool, true, false, List, [], ◌∷◌, ◌++◌, length, refl, sym, ap, subst, arith, ℤ, pos, negsuc, ◌+ℤ◌, ◌-ℤ◌, ◌<ℤ◌, if◌then◌else◌}
use Rattle.std.specs.List.{flat_map, range_with_len}
use Rattle.std.proofs.lemmas.Int.{ints}
use Rattle.std.proofs.lemmas.Bool.{cases_eq, not-false}
use lib.Signed.{le_z}
use Rattle.geo_conditions.specs.declared.cond.Cond.{Cond, Lin, NotShape}
use Rattle.geo_conditions.specs.Form.{Sum}
use Rattle.geo_conditions.specs.Terms.{term_of}
use Rattle.geo_conditions.specs.Reach.{State, reach, low, high, is_only}
use Rattle.geo_conditions.specs.Conditions.{possible, least_value, IsRefuted}
use Rattle.geo_conditions.proofs.Children.{many_possible}
use Rattle.indexical.specs.declared.placed.PlacedBox.{PlacedBox}
use Rattle.indexical.specs.Apart.{gap, literals, other_shape, apart_parts, apart, MustOverlap}
use Rattle.indexical.specs.Listed.{conds_of}
use Rattle.indexical.proofs.Children.{counted_false, counted_none, refuted_at_least, few_of_refuted}

many_append : (T : State) (xs ys : List Cond) → many_possible T (xs ++ ys) ≡ many_possible T xs + many_possible T ys
many_append T [] ys = omega arith
many_append T (x ∷ xs) ys = let r = many_append T xs ys in omega (arith, r)

pub above : (z : ℤ) → le_z z (pos 0) ≡ false → pos 0 <ℤ z
above z e = grind (arith, ints)

pub not_above : (z : ℤ) → pos 0 <ℤ z → le_z z (pos 0) ≡ false
not_above z e = grind (arith, ints)

module _ {K : ℕ} (a b : PlacedBox K) where
  -- a ends before b begins, and b before a
  abbrev first_sum : ℕ → Sum
  first_sum d = record { terms = term_of (a.object, d, pos 1) ∷ term_of (b.object, d, negsuc 0) ∷ []; constant = gap a b d }

  abbrev second_sum : ℕ → Sum
  second_sum d = record { terms = term_of (a.object, d, negsuc 0) ∷ term_of (b.object, d, pos 1) ∷ []; constant = gap b a d }

  module _ (T : State) where
    first_value : (d : ℕ) → least_value (first_sum d) T ≡ (low T a.object.0 d +ℤ gap a b d) -ℤ high T b.object.0 d
    first_value d = omega (arith, ints)

    second_value : (d : ℕ) → least_value (second_sum d) T ≡ (low T b.object.0 d +ℤ gap b a d) -ℤ high T a.object.0 d
    second_value d = omega (arith, ints)

    -- in the dimension d neither can end before the other begins
    abbrev Passes : ℕ → Type 0
    Passes d = (high T b.object.0 d <ℤ (low T a.object.0 d +ℤ gap a b d)) × (high T a.object.0 d <ℤ (low T b.object.0 d +ℤ gap b a d))

    passes_out : (d : ℕ) → many_possible T (literals a b d) ≡ 0 → Passes d
    passes_out d none =
        let f = above (least_value (first_sum d) T) (counted_none (possible (Lin (first_sum d)) T) (omega (arith, none))) in
        let s = above (least_value (second_sum d) T) (counted_none (possible (Lin (second_sum d)) T) (omega (arith, none))) in
        let v = first_value d in
        let w = second_value d in
        (omega (arith, ints, f, v), omega (arith, ints, s, w))

    passes_in : (d : ℕ) → Passes d → many_possible T (literals a b d) ≡ 0
    passes_in d p =
        let v = first_value d in
        let w = second_value d in
        let f = counted_false (possible (Lin (first_sum d)) T) (not_above (least_value (first_sum d) T) (omega (arith, ints, p.0, v))) in
        let s = counted_false (possible (Lin (second_sum d)) T) (not_above (least_value (second_sum d) T) (omega (arith, ints, p.1, w))) in
        omega (arith, f, s)

    all_out : (d n : ℕ) → many_possible T (flat_map (literals a b) (range_with_len d n)) ≡ 0 → (e : ℕ) → d ≤ e → e < d + n → Passes e
    all_out d zero none e l h = absurd (omega arith)
    all_out d (suc n) none e l h =
        let both = many_append T (literals a b d) (flat_map (literals a b) (range_with_len (d + 1) n)) in
        elim (cases_eq e d) [
          | inl q ↦ subst Passes (sym q) (passes_out d (omega (arith, both, none)))
          | inr ne ↦ all_out (d + 1) n (omega (arith, both, none)) e (omega arith) (omega arith)
        ]

    all_in : (d n : ℕ) → ((e : ℕ) → d ≤ e → e < d + n → Passes e) → many_possible T (flat_map (literals a b) (range_with_len d n)) ≡ 0
    all_in d zero p = refl
    all_in d (suc n) p =
        let both = many_append T (literals a b d) (flat_map (literals a b) (range_with_len (d + 1) n)) in
        let here = passes_in d (p d (omega arith) (omega arith)) in
        let rest = all_in (d + 1) n (λ e l h. p e (omega arith) (omega arith)) in
        omega (arith, both, here, rest)

-- a shape that the object has for certain
module _ {K : ℕ} (a : PlacedBox K) (T : State) where
  shape_out : many_possible T (other_shape a) ≡ 0 → a.leaf ≡ true → is_only (reach T a.object.0).places a.place ≡ true
  shape_out none e =
      let there : many_possible T (NotShape a.object a.place ∷ []) ≡ 0 = subst (λ (l : Bool). many_possible T (if l then NotShape a.object a.place ∷ [] else []) ≡ 0) e none in
      not-false (is_only (reach T a.object.0).places a.place) (counted_none (possible (NotShape a.object a.place) T) (omega (arith, there)))

  shape_in : (a.leaf ≡ true → is_only (reach T a.object.0).places a.place ≡ true) → many_possible T (other_shape a) ≡ 0
  shape_in h = of a.leaf refl
    where
      of : (l : Bool) → a.leaf ≡ l → many_possible T (if l then NotShape a.object a.place ∷ [] else []) ≡ 0
      of false e = refl
      of true e = let o = h e in let none = counted_false (possible (NotShape a.object a.place) T) (ap not o) in omega (arith, none)

module _ {K : ℕ} (a b : PlacedBox K) (T : State) where
  parts_of : many_possible T (apart_parts a b) ≡ many_possible T (other_shape a) + many_possible T (other_shape b) + many_possible T (flat_map (literals a b) (range_with_len 0 K))
  parts_of =
      let x = many_append T (other_shape a) (other_shape b ++ flat_map (literals a b) (range_with_len 0 K)) in
      let y = many_append T (other_shape b) (flat_map (literals a b) (range_with_len 0 K)) in
      omega (arith, x, y)

  overlap_out : many_possible T (apart_parts a b) ≡ 0 → MustOverlap a b T
  overlap_out none =
      let all = all_out a b T 0 K (omega (arith, parts_of, none)) in
      record {
        first_shape = shape_out a T (omega (arith, parts_of, none));
        second_shape = shape_out b T (omega (arith, parts_of, none));
        first_ends = λ d h. (all d (omega arith) (omega arith)).0;
        second_ends = λ d h. (all d (omega arith) (omega arith)).1;
      }

  overlap_in : MustOverlap a b T → many_possible T (apart_parts a b) ≡ 0
  overlap_in o =
      let x = shape_in a T o.first_shape in
      let y = shape_in b T o.second_shape in
      let z = all_in a b T 0 K (λ e l h. (o.first_ends e (omega arith), o.second_ends e (omega arith))) in
      omega (arith, parts_of, x, y, z)

  module _ (short : length (apart_parts a b) < 2 ^ 63) where
    -- the condition that two boxes do not overlap is refuted exactly where they must
    pub apart_refuted : MustOverlap a b T → IsRefuted (apart a b short) T
    apart_refuted o = let none = overlap_in o in refuted_at_least (pos 1) (conds_of (apart_parts a b) short) T (omega (arith, ints, none))

    pub refuted_apart : IsRefuted (apart a b short) T → MustOverlap a b T
    refuted_apart r = let few = few_of_refuted (pos 1) (conds_of (apart_parts a b) short) T r in overlap_out (omega (arith, ints, few))
