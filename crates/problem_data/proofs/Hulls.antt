-- What some piece has lies in the hull; so a tuple is a wide one.
use Rattle.std.proofs.Common.{◌≡◌, ℕ, zero, suc, ◌<◌, ℤ, ◌≤ℤ◌, List, [], ◌∷◌, length, map, get_or, sym, subst, refl, arith}
use Rattle.std.specs.Prelude.{All}
use Rattle.std.proofs.lemmas.Int.{ints}
use Rattle.std.proofs.lemmas.List.{length-map, get_or-map}
use Rattle.geo_base.specs.Boxes.{coordinate}
use Rattle.geo_base.specs.Tuple.{Spot, Tuple, spot}
use Rattle.problem_data.specs.Problem.{RangeData, ObjectData, no_object, ProblemData}
use Rattle.problem_data.specs.Pieces.{no_range, range_at, IsInRange, IsInPieces, AreApart, last_of, hull, hulls, pieces_at}
use Rattle.problem_data.specs.WellFormed.{IsRange, ArePieces, IsObject, IsWellFormed}
use Rattle.problem_data.specs.Tuple.{object_of}
use Rattle.problem_data.specs.Cells.{IsSpotOf, IsTuple, IsWideSpotOf, IsWideTuple}

-- the ranges behind the first
pub behind : (r : RangeData) (rest : List RangeData) → All IsRange (r ∷ rest) → All IsRange rest
behind r rest a i d l = a (suc i) d (omega (arith, l))

pub first_filled : (r : RangeData) (rest : List RangeData) → All IsRange (r ∷ rest) → r.low ≤ℤ r.high
first_filled r rest a = (a 0 no_range (omega arith)).filled

-- the first high end is at most the last
pub first_below : (r : RangeData) (rest : List RangeData) → All IsRange (r ∷ rest) → AreApart (r ∷ rest) → r.high ≤ℤ (last_of r rest).high
first_below r [] f a = omega (arith, ints)
first_below r (s ∷ rest) f a =
    let k = first_below s rest (behind r (s ∷ rest) f) a.1 in
    let l = first_filled s rest (behind r (s ∷ rest) f) in
    let g = a.0 in
    omega (arith, ints, k, l, g)

pub low_first : (r : RangeData) (rest : List RangeData) (v : ℤ) (n : ℕ) → All IsRange (r ∷ rest) → AreApart (r ∷ rest) → n < length (r ∷ rest) → IsInRange (range_at (r ∷ rest) n) v → r.low ≤ℤ v
low_first r rest v zero f a l i = i.0
low_first r [] v (suc n) f a l i = absurd (omega (arith, l))
low_first r (s ∷ rest) v (suc n) f a l i =
    let k = low_first s rest v n (behind r (s ∷ rest) f) a.1 (omega (arith, l)) i in
    let h = first_filled r (s ∷ rest) f in
    let g = a.0 in
    omega (arith, ints, k, h, g)

pub high_last : (r : RangeData) (rest : List RangeData) (v : ℤ) (n : ℕ) → All IsRange (r ∷ rest) → AreApart (r ∷ rest) → n < length (r ∷ rest) → IsInRange (range_at (r ∷ rest) n) v → v ≤ℤ (last_of r rest).high
high_last r rest v zero f a l i =
    let k = first_below r rest f a in
    let h = i.1 in
    omega (arith, ints, k, h)
high_last r [] v (suc n) f a l i = absurd (omega (arith, l))
high_last r (s ∷ rest) v (suc n) f a l i = high_last s rest v n (behind r (s ∷ rest) f) a.1 (omega (arith, l)) i

pub pieces_inside : (pieces : List RangeData) (v : ℤ) → ArePieces pieces → IsInPieces pieces v → IsInRange (hull pieces) v
pieces_inside [] v p i = absurd (let l = p.some in omega (arith, l))
pieces_inside (r ∷ rest) v p i = (low_first r rest v i.0 p.ranges p.apart i.1 i.2, high_last r rest v i.0 p.ranges p.apart i.1 i.2)

-- the hull of pieces is a range
last_is_range : (r : RangeData) (rest : List RangeData) → All IsRange (r ∷ rest) → IsRange (last_of r rest)
last_is_range r [] f = f 0 no_range (omega arith)
last_is_range r (s ∷ rest) f = last_is_range s rest (behind r (s ∷ rest) f)

pub hull_is_range : (pieces : List RangeData) → ArePieces pieces → IsRange (hull pieces)
hull_is_range [] p = absurd (let l = p.some in omega (arith, l))
hull_is_range (r ∷ rest) p =
    let first = p.ranges 0 no_range (omega arith) in
    let k = first_below r rest p.ranges p.apart in
    let f = first.filled in
    record { low = first.low; filled = omega (arith, ints, k, f); high = (last_is_range r rest p.ranges).high }

-- the hull of a dimension, in the list of all
pub hull_at : (o : ObjectData) (d : ℕ) → range_at (hulls o) d ≡ hull (pieces_at o d)
hull_at o d = at o.pieces d
  where
    at : (xs : List (List RangeData)) (n : ℕ) → range_at (map hull xs) n ≡ hull (get_or xs n [])
    at [] n = refl
    at (x ∷ xs) zero = refl
    at (x ∷ xs) (suc n) = at xs n

pub hulls_are_ranges : (p : ProblemData) (o : ObjectData) → IsObject p o → All IsRange (hulls o)
hulls_are_ranges p o w i d l =
    let n = length-map o.pieces hull in
    let k : i < length o.pieces = omega (arith, l, n) in
    subst IsRange (sym (get_or-map hull o.pieces i [] d k)) (hull_is_range (get_or o.pieces i []) (w.pieces i [] k))

pub spot_is_wide : (p : ProblemData) (o : ObjectData) (s : Spot) → IsObject p o → IsSpotOf p o s → IsWideSpotOf p o s
spot_is_wide p o s w h = record {
  form = h.form;
  hulls = λ d l.
      let n = length-map o.pieces hull in
      let k : d < length o.pieces = omega (arith, l, n) in
      let e = w.dimensions in
      subst (λ (r : RangeData). IsInRange r (coordinate s.origin d)) (sym (hull_at o d)) (pieces_inside (pieces_at o d) (coordinate s.origin d) (w.pieces d [] k) (h.pieces d (omega (arith, k, e))));
}

pub tuple_is_wide : (p : ProblemData) (t : Tuple) → IsWellFormed p → IsTuple p t → IsWideTuple p t
tuple_is_wide p t w h = record { objects = h.objects; each = λ o l. spot_is_wide p (object_of p o) (spot t o) (w.objects o no_object l) (h.each o l) }
