-- The conditions that objects have by themselves are all true on a wide tuple exactly where it is a tuple.
use Rattle.std.proofs.Common.{◌≡◌, ◌↔◌, ◌<◌, ◌+◌, ◌-◌, ℕ, ℤ, ◌≤ℤ◌, ◌⊎◌, inl, inr, Bool, true, false, cond, not, ◌==◌, ◌&&◌, ◌||◌, List, [], ◌∷◌, map, length, refl, sym, subst, ◌∙◌, arith}
use Rattle.std.specs.Prelude.{All}
use Rattle.std.specs.List.{flat_map, range_with_len}
use Rattle.std.proofs.Math.Logic.{⊎_elim}
use Rattle.std.proofs.lemmas.Int.{ints}
use Rattle.std.proofs.lemmas.Bool.{false≢true, or_cases, or_left, or_right, not_from_true, not_from_false}
use Rattle.std.proofs.lemmas.List.{length-map}
use Rattle.std.proofs.lemmas.List.Elements.{All-nil, All-cons, All-head, All-tail, All-map, All-append}
use lib.Signed.{le_z}
use Rattle.geo_base.specs.Boxes.{coordinate}
use Rattle.geo_base.specs.Tuple.{Tuple, spot}
use Rattle.problem_data.specs.Problem.{RangeData, no_object, ProblemData, runs_down}
use Rattle.problem_data.specs.Places.{absent_place, side_at, AreFirst}
use Rattle.problem_data.specs.Pieces.{range_at, pieces_at, hull, hulls, IsInRange}
use Rattle.problem_data.specs.Tuple.{object_of}
use Rattle.problem_data.specs.Cells.{IsTuple, IsWideTuple}
use Rattle.problem_data.specs.WellFormed.{ArePieces, IsWellFormed}
use Rattle.problem_data.proofs.Hulls.{hull_at}
use Rattle.linear_conditions.specs.CondTree.{shape_is_not, true_on}
use Rattle.rule_ground.specs.Own.{up_to, from, hole_condition, hole_behind, holes_in, holes_at, at_first, origin_condition, origins_of, own_of, own_conditions}
use Rattle.rule_ground.proofs.ApartTruth.{IsTrueOn}
use Rattle.rule_ground.proofs.Holes.{InNoHole, no-hole-in, no-hole-out}
use Rattle.rule_ground.proofs.Truths.{one-of, up-true, down-true, all-left, all-right, all-flat-out, all-flat-in, all-range-out, all-range-in}

at_most : (x y : ℤ) → le_z x y ≡ true → x ≤ℤ y
at_most x y h = grind (arith, ints)

is_at_most : (x y : ℤ) → x ≤ℤ y → le_z x y ≡ true
is_at_most x y h = grind (arith, ints)

-- ---- one hole

-- the number is not between the two pieces
abbrev IsBeside : RangeData → RangeData → ℤ → Type 0
IsBeside r s v = (v ≤ℤ r.high) ⊎ (s.low ≤ℤ v)

hole-is : (t : Tuple) (o d : ℕ) (r s : RangeData) → let v : ℤ = coordinate (spot t o).origin d in true_on t (hole_condition o d r s) ≡ (le_z v r.high || (le_z s.low v || false))
hole-is t o d r s =
    let v : ℤ = coordinate (spot t o).origin d in
    one-of t (up_to o d r.high ∷ (from o d s.low ∷ [])) ∙ (λ i. up-true v r.high i || (down-true v s.low i || false))

hole-out : (t : Tuple) (o d : ℕ) (r s : RangeData) → IsTrueOn t (hole_condition o d r s) → IsBeside r s (coordinate (spot t o).origin d)
hole-out t o d r s h =
    let v : ℤ = coordinate (spot t o).origin d in
    ⊎_elim
    (λ a. inl (at_most v r.high a))
    (λ b. ⊎_elim (λ a. inr (at_most s.low v a)) (λ a. absurd (false≢true a)) (or_cases (le_z s.low v) false b))
    (or_cases (le_z v r.high) (le_z s.low v || false) (sym (hole-is t o d r s) ∙ h))

hole-in : (t : Tuple) (o d : ℕ) (r s : RangeData) → IsBeside r s (coordinate (spot t o).origin d) → IsTrueOn t (hole_condition o d r s)
hole-in t o d r s h =
    let v : ℤ = coordinate (spot t o).origin d in
    hole-is t o d r s
    ∙ ⊎_elim
    (λ a. or_left (le_z v r.high) (le_z s.low v || false) (is_at_most v r.high a))
    (λ b. or_right (le_z v r.high) (le_z s.low v || false) (or_left (le_z s.low v) false (is_at_most s.low v b)))
    h

-- ---- the holes of a range

mapped-out : {A B : Type 0} (P : B → Type 0) (g : A → B) (xs : List A) → All P (map g xs) → All (λ x. P (g x)) xs
mapped-out P g [] h = All-nil (λ x. P (g x))
mapped-out P g (x ∷ xs) h = All-cons (λ y. P (g y)) x xs (All-head P (g x) (map g xs) h) (mapped-out P g xs (All-tail P (g x) (map g xs) h))

holes-out : (t : Tuple) (o d : ℕ) (rs : List RangeData) → All (IsTrueOn t) (holes_in o d rs) → InNoHole rs (coordinate (spot t o).origin d)
holes-out t o d rs h n l =
    let each = mapped-out (IsTrueOn t) (hole_behind o d rs) (range_with_len 0 (length rs - 1)) h in
    hole-out t o d (range_at rs n) (range_at rs (n + 1)) (all-range-out (λ m. IsTrueOn t (hole_behind o d rs m)) 0 (length rs - 1) each n (omega arith) (omega (arith, l)))

holes-in : (t : Tuple) (o d : ℕ) (rs : List RangeData) → InNoHole rs (coordinate (spot t o).origin d) → All (IsTrueOn t) (holes_in o d rs)
holes-in t o d rs h =
    All-map (IsTrueOn t) (hole_behind o d rs) (range_with_len 0 (length rs - 1))
    (all-range-in (λ n. IsTrueOn t (hole_behind o d rs n)) 0 (length rs - 1) (λ n k l. hole-in t o d (range_at rs n) (range_at rs (n + 1)) (h n (omega (arith, l)))))

-- ---- the first value of a range

first-out : (b : Bool) (t : Tuple) (o d : ℕ) (r : RangeData) → let v : ℤ = coordinate (spot t o).origin d in let first : ℤ = cond b r.high r.low in
    IsInRange r v → IsTrueOn t (cond b (from o d first) (up_to o d first)) → v ≡ first
first-out true t o d r i h =
    let v : ℤ = coordinate (spot t o).origin d in
    let l = at_most r.high v (sym (down-true v r.high) ∙ h) in
    let m = i.1 in omega (arith, ints, l, m)
first-out false t o d r i h =
    let v : ℤ = coordinate (spot t o).origin d in
    let l = at_most v r.low (sym (up-true v r.low) ∙ h) in
    let m = i.0 in omega (arith, ints, l, m)

first-in : (b : Bool) (t : Tuple) (o d : ℕ) (r : RangeData) → let v : ℤ = coordinate (spot t o).origin d in let first : ℤ = cond b r.high r.low in
    v ≡ first → IsTrueOn t (cond b (from o d first) (up_to o d first))
first-in true t o d r e =
    let v : ℤ = coordinate (spot t o).origin d in
    down-true v r.high ∙ is_at_most r.high v (omega (arith, ints, e))
first-in false t o d r e =
    let v : ℤ = coordinate (spot t o).origin d in
    up-true v r.low ∙ is_at_most v r.low (omega (arith, ints, e))

-- ---- of a problem

module _ (p : ProblemData) (w : IsWellFormed p) where
  pub inside : (o d : ℕ) → o < length p.objects → d < p.dims → d < length (object_of p o).pieces
  inside o d h l = subst (λ n. d < n) (sym (w.objects o no_object h).dimensions) l

  pub are-pieces : (o d : ℕ) → o < length p.objects → d < p.dims → ArePieces (pieces_at (object_of p o) d)
  are-pieces o d h l = (w.objects o no_object h).pieces d [] (inside o d h l)

  hull-there : (t : Tuple) → IsWideTuple p t → (o d : ℕ) → o < length p.objects → d < p.dims → IsInRange (hull (pieces_at (object_of p o) d)) (coordinate (spot t o).origin d)
  hull-there t wide o d h l =
      let m : d < length (hulls (object_of p o)) = subst (λ n. d < n) (sym (length-map (object_of p o).pieces hull)) (inside o d h l) in
      subst (λ (r : RangeData). IsInRange r (coordinate (spot t o).origin d)) (hull_at (object_of p o) d) ((wide.each o h).hulls d m)

  -- the conditions of an origin, taken apart
  origin-is : (t : Tuple) (o d : ℕ) → true_on t (origin_condition p o d) ≡ (not ((spot t o).place == absent_place (object_of p o)) || (true_on t (at_first p o d) || false))
  origin-is t o d = one-of t (shape_is_not o (absent_place (object_of p o)) ∷ (at_first p o d ∷ []))

  origin-out : (t : Tuple) (o d : ℕ) → IsTrueOn t (origin_condition p o d) → ((spot t o).place == absent_place (object_of p o)) ≡ true → IsTrueOn t (at_first p o d)
  origin-out t o d h e =
      ⊎_elim
      (λ a. absurd (false≢true (sym (not_from_true ((spot t o).place == absent_place (object_of p o)) e) ∙ a)))
      (λ b. ⊎_elim (λ a. a) (λ a. absurd (false≢true a)) (or_cases (true_on t (at_first p o d)) false b))
      (or_cases (not ((spot t o).place == absent_place (object_of p o))) (true_on t (at_first p o d) || false) (sym (origin-is t o d) ∙ h))

  origin-in : (t : Tuple) (o d : ℕ) (b : Bool) → ((spot t o).place == absent_place (object_of p o)) ≡ b → (b ≡ true → IsTrueOn t (at_first p o d)) → IsTrueOn t (origin_condition p o d)
  origin-in t o d true e f =
      origin-is t o d ∙ or_right (not ((spot t o).place == absent_place (object_of p o))) (true_on t (at_first p o d) || false) (or_left (true_on t (at_first p o d)) false (f refl))
  origin-in t o d false e f =
      origin-is t o d ∙ or_left (not ((spot t o).place == absent_place (object_of p o))) (true_on t (at_first p o d) || false) (not_from_false ((spot t o).place == absent_place (object_of p o)) e)

  origins-by : (t : Tuple) → IsWideTuple p t → (o : ℕ) → o < length p.objects → (b : Bool) → All (IsTrueOn t) (cond b (map (origin_condition p o) (range_with_len 0 p.dims)) []) →
      (b && ((spot t o).place == absent_place (object_of p o))) ≡ true → AreFirst p (object_of p o) (spot t o).origin
  origins-by t wide o h true all e = λ d l.
      first-out (runs_down (side_at p d)) t o d (hull (pieces_at (object_of p o) d)) (hull-there t wide o d h l)
      (origin-out t o d (all-range-out (λ e. IsTrueOn t (origin_condition p o e)) 0 p.dims (mapped-out (IsTrueOn t) (origin_condition p o) (range_with_len 0 p.dims) all) d (omega arith) (omega (arith, l))) e)
  origins-by t wide o h false all e = cc

  origins-in : (t : Tuple) (o : ℕ) (b : Bool) → ((b && ((spot t o).place == absent_place (object_of p o))) ≡ true → AreFirst p (object_of p o) (spot t o).origin) →
      All (IsTrueOn t) (cond b (map (origin_condition p o) (range_with_len 0 p.dims)) [])
  origins-in t o true f =
      All-map (IsTrueOn t) (origin_condition p o) (range_with_len 0 p.dims)
      (all-range-in (λ d. IsTrueOn t (origin_condition p o d)) 0 p.dims (λ d z l.
      origin-in t o d ((spot t o).place == absent_place (object_of p o)) refl
      (λ e. first-in (runs_down (side_at p d)) t o d (hull (pieces_at (object_of p o) d)) (f e d (omega (arith, l))))))
  origins-in t o false f = All-nil (IsTrueOn t)

  pub own-out : (t : Tuple) → IsWideTuple p t → All (IsTrueOn t) (own_conditions p) → IsTuple p t
  own-out t wide all = record {
    objects = wide.objects;
    each = λ o h.
        let holes = flat_map (holes_at p o) (range_with_len 0 p.dims) in
        let own = all-range-out (λ u. All (IsTrueOn t) (own_of p u)) 0 (length p.objects) (all-flat-out (IsTrueOn t) (own_of p) (range_with_len 0 (length p.objects)) all) o (omega arith) (omega (arith, h)) in
        record {
          form = (wide.each o h).form;
          pieces = λ d l.
              let each = all-range-out (λ e. All (IsTrueOn t) (holes_at p o e)) 0 p.dims (all-flat-out (IsTrueOn t) (holes_at p o) (range_with_len 0 p.dims) (all-left (IsTrueOn t) holes (origins_of p o) own)) d (omega arith) (omega (arith, l)) in
              no-hole-in (pieces_at (object_of p o) d) (coordinate (spot t o).origin d) (are-pieces o d h l) (hull-there t wide o d h l) (holes-out t o d (pieces_at (object_of p o) d) each);
          first = λ e. origins-by t wide o h (object_of p o).may_be_absent (all-right (IsTrueOn t) holes (origins_of p o) own) e;
        };
  }

  pub own-in : (t : Tuple) → IsTuple p t → All (IsTrueOn t) (own_conditions p)
  own-in t is =
      all-flat-in (IsTrueOn t) (own_of p) (range_with_len 0 (length p.objects)) (all-range-in (λ o. All (IsTrueOn t) (own_of p o)) 0 (length p.objects) (λ o z h.
      let i : o < length p.objects = omega (arith, h) in
      All-append (IsTrueOn t) (flat_map (holes_at p o) (range_with_len 0 p.dims)) (origins_of p o)
      (all-flat-in (IsTrueOn t) (holes_at p o) (range_with_len 0 p.dims) (all-range-in (λ d. All (IsTrueOn t) (holes_at p o d)) 0 p.dims (λ d y l.
      let k : d < p.dims = omega (arith, l) in
      let v : ℤ = coordinate (spot t o).origin d in
      holes-in t o d (pieces_at (object_of p o) d) (no-hole-out (pieces_at (object_of p o) d) v (are-pieces o d i k) ((is.each o i).pieces d k)))))
      (origins-in t o (object_of p o).may_be_absent (is.each o i).first)))

  -- on a wide tuple all are true exactly where it is a tuple
  pub own-true : (t : Tuple) → IsWideTuple p t → All (IsTrueOn t) (own_conditions p) ↔ IsTuple p t
  own-true t wide = ((λ all. own-out t wide all), (λ is. own-in t is))
