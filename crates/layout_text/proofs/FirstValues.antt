-- The first values of an object: its pieces have them, and an origin that has them is the list of
-- them. What a place says of whether the object is absent.
use Rattle.std.proofs.Common.{◌≡◌, ◌<◌, ◌≤◌, ◌+◌, ◌==◌, ◌&&◌, ℕ, suc, ℤ, pos, Bool, true, false, List, [], ◌∷◌, length, map, if◌then◌else◌, refl, sym, ap, ◌∙◌, subst, arith}
use Rattle.std.specs.Prelude.{All}
use Rattle.std.proofs.lemmas.Bool.Decides.{nat_tests}
use Rattle.std.proofs.lemmas.Int.{ints}
use Rattle.std.proofs.lemmas.List.{ext_get_or, length-map}
use Rattle.std.proofs.lemmas.List.FromFn.{length-map-range_with_len, get_or-map-range_with_len}
use Rattle.geo_base.specs.Boxes.{coordinate}
use Rattle.problem_data.specs.declared.tree.Int.{Int}
use Rattle.problem_data.specs.Meaning.{number_of}
use Rattle.problem_data.specs.Problem.{RangeData, ObjectData, ProblemData, runs_down}
use Rattle.problem_data.specs.Pieces.{no_range, IsInPieces, last_of, hull, pieces_at}
use Rattle.problem_data.specs.Places.{AreFirst, absent_place, first_value, is_absent_at, place_count, side_at}
use Rattle.problem_data.specs.WellFormed.{ArePieces, IsObject, IsRange}
use Rattle.layout_text.specs.Faults.{first_values}

-- ---- the ends of pieces

low_in : (r : RangeData) (rest : List RangeData) → All IsRange (r ∷ rest) → IsInPieces (r ∷ rest) r.low
low_in r rest all = (0, omega arith, (omega (arith, ints), (all 0 no_range (omega arith)).filled))

high_in : (r : RangeData) (rest : List RangeData) → All IsRange (r ∷ rest) → IsInPieces (r ∷ rest) (last_of r rest).high
high_in r [] all = (0, omega arith, ((all 0 no_range (omega arith)).filled, omega (arith, ints)))
high_in r (s ∷ rest) all =
    let i = high_in s rest (λ k d lt. all (suc k) d (omega arith)) in
    (suc i.0, (let lt : i.0 < length (s ∷ rest) = i.1 in omega arith), i.2)

hull_low : (pieces : List RangeData) → ArePieces pieces → IsInPieces pieces (hull pieces).low
hull_low [] h = absurd (let l = h.some in omega (arith, l))
hull_low (r ∷ rest) h = low_in r rest h.ranges

hull_high : (pieces : List RangeData) → ArePieces pieces → IsInPieces pieces (hull pieces).high
hull_high [] h = absurd (let l = h.some in omega (arith, l))
hull_high (r ∷ rest) h = high_in r rest h.ranges

module _ (p : ProblemData) (o : ObjectData) where
  -- ---- the list of first values

  pub as_many_first : length (first_values p o) ≡ p.dims
  as_many_first = length-map-range_with_len (first_value p o) 0 p.dims

  pub first_at : (d : ℕ) → d < p.dims → coordinate (first_values p o) d ≡ first_value p o d
  first_at d lt = get_or-map-range_with_len (first_value p o) 0 p.dims d d (pos 0) lt (omega arith)

  pub first_are : AreFirst p o (first_values p o)
  first_are d lt = first_at d lt

  pub first_same : (origin : List ℤ) → length origin ≡ p.dims → AreFirst p o origin → origin ≡ first_values p o
  first_same origin n h =
      ext_get_or (pos 0) origin (first_values p o) (n ∙ sym as_many_first)
      (λ d lt. let less : d < p.dims = omega (arith, n) in h d less ∙ sym (first_at d less))

  pub are_first_of : (origin : List ℤ) → origin ≡ first_values p o → AreFirst p o origin
  are_first_of origin e d lt = ap (λ (xs : List ℤ). coordinate xs d) e ∙ first_at d lt

  -- numbers that are not one for each dimension are others
  pub wrong_count : (xs : List Int) → (length xs ≡ p.dims → ⊥) → map number_of xs ≡ first_values p o → ⊥
  wrong_count xs n e = n (sym (length-map xs number_of) ∙ ap length e ∙ as_many_first)

  pub all_first : (xs : List Int) → length xs ≡ p.dims → AreFirst p o (map number_of xs) → map number_of xs ≡ first_values p o
  all_first xs n h = first_same (map number_of xs) (length-map xs number_of ∙ n) h

  pub first_in_pieces : IsObject p o → (d : ℕ) → d < p.dims → IsInPieces (pieces_at o d) (first_value p o d)
  first_in_pieces is d lt = by_side (runs_down (side_at p d))
    where
      pieces : ArePieces (pieces_at o d)
      pieces = is.pieces d [] (let n = is.dimensions in omega (arith, n, lt))

      by_side : (b : Bool) → IsInPieces (pieces_at o d) (if b then (hull (pieces_at o d)).high else (hull (pieces_at o d)).low)
      by_side true = hull_high (pieces_at o d) pieces
      by_side false = hull_low (pieces_at o d) pieces

  pub first_values_in : IsObject p o → (d : ℕ) → d < p.dims → IsInPieces (pieces_at o d) (coordinate (first_values p o) d)
  first_values_in is d lt = subst (λ (v : ℤ). IsInPieces (pieces_at o d) v) (sym (first_at d lt)) (first_in_pieces is d lt)

-- ---- places

other_place : (b : Bool) (n m : ℕ) → n < m → (b && (n == m)) ≡ true → ⊥
other_place true n m lt e = grind (arith, nat_tests)
other_place false n m lt e = cc

same_place : (b : Bool) (n m : ℕ) → (b && (n == m)) ≡ true → n ≡ m
same_place true n m e = grind (arith, nat_tests)
same_place false n m e = cc

-- at the place of a shape it is not absent
pub not_absent : (o : ObjectData) (n : ℕ) → n ≤ length o.shapes → is_absent_at o n ≡ true → ⊥
not_absent o n le e = other_place o.may_be_absent n (absent_place o) (omega arith) e

pub absent_is : (o : ObjectData) (n : ℕ) → is_absent_at o n ≡ true → n ≡ absent_place o
absent_is o n e = same_place o.may_be_absent n (absent_place o) e

optional : (b : Bool) (n m : ℕ) → (b && (n == m)) ≡ true → b ≡ true
optional true n m e = refl
optional false n m e = cc

-- an object that is absent may be
pub absent_may : (o : ObjectData) (n : ℕ) → is_absent_at o n ≡ true → o.may_be_absent ≡ true
absent_may o n e = optional o.may_be_absent n (absent_place o) e

-- a place where it is not absent is that of a shape
pub present_place : (o : ObjectData) (n : ℕ) → n ≤ place_count o → is_absent_at o n ≡ false → n ≤ length o.shapes
present_place o n le e = by_flag o.may_be_absent le e
  where
    by_flag : (b : Bool) → n ≤ length o.shapes + (if b then 1 else 0) → (b && (n == length o.shapes + 1)) ≡ false → n ≤ length o.shapes
    by_flag true l f = grind (arith, nat_tests)
    by_flag false l f = omega arith

-- where it may be absent, that is one of its places
pub absent_counted : (o : ObjectData) → o.may_be_absent ≡ true → absent_place o ≤ place_count o
absent_counted o e = let c : place_count o ≡ length o.shapes + 1 = ap (λ b. length o.shapes + (if b then 1 else 0)) e in omega (arith, c)
