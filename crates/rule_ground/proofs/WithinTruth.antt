-- The conditions of `within` are all true exactly where each cell of each object lies in the ranges.
use Rattle.std.proofs.Common.{◌≡◌, ◌<◌, ◌==◌, ℕ, ℤ, pos, ◌-ℤ◌, Bool, true, false, not, ◌||◌, List, [], ◌∷◌, length, get_or, refl, sym, subst, ◌∙◌, ap, arith}
use Rattle.std.specs.Prelude.{◌≤ℤ◌, ◌<ℤ◌, All, if◌then◌else◌}
use Rattle.std.specs.List.{range_with_len}
use Rattle.std.proofs.Math.Logic.{⊎_elim}
use Rattle.std.proofs.lemmas.Int.{ints}
use Rattle.std.proofs.lemmas.Bool.{cases_Bool, eq-eqb, eqb-true, false≢true, or_cases, or_left, or_right, not_from_true, not_from_false, ltb-false}
use Rattle.std.proofs.lemmas.List.{get_or_default}
use Rattle.std.proofs.lemmas.List.Elements.{All-nil, All-cons, All-head, All-tail}
use Rattle.std.proofs.Math.Bool.{or-false}
use lib.Signed.{le_z}
use Rattle.geo_base.specs.Boxes.{coordinate}
use Rattle.geo_base.specs.Tuple.{Tuple, spot}
use Rattle.problem_data.specs.Problem.{BoxData, RangeData, ProblemData}
use Rattle.problem_data.specs.Tuple.{object_of}
use Rattle.problem_data.specs.Cells.{BoxHas, box_at, range_at, IsInRanges, IsCellOf, IsWithin, IsShaped}
use Rattle.problem_data.specs.Places.{place_count}
use Rattle.problem_data.specs.WellFormed.{IsBox, IsWellFormed}
use Rattle.linear_conditions.specs.CondTree.{CondTree, shape_is_not, at_least, conds, true_on}
use Rattle.rule_ground.specs.Shapes.{places, IsPlace, has_several}
use Rattle.rule_values.specs.Shapes.{boxes_at}
use Rattle.rule_values.proofs.Boxes.{boxes-good}
use Rattle.rule_ground.specs.Within.{unless_other, from_low, to_high, within_in, within_of_box, within_at_place, within_of, within_conditions}
use Rattle.rule_ground.proofs.ApartTruth.{IsTrueOn}
use Rattle.rule_ground.proofs.Cells.{low_of, end_of, solid, cell-with}
use Rattle.rule_ground.proofs.Placing.{boxes-placed, place-of, only-one}
use Rattle.rule_ground.proofs.Truths.{one-of, low-true, high-true, all-flat-out, all-flat-in, all-range-out, all-range-in}

low-is : (t : Tuple) (o : ℕ) (b : BoxData) (ranges : List RangeData) (d : ℕ) → true_on t (from_low o b ranges d) ≡ le_z (range_at ranges d).low (low_of b (spot t o).origin d)
low-is t o b ranges d = low-true (coordinate (spot t o).origin d) (range_at ranges d).low (coordinate b.offsets d)

high-is : (t : Tuple) (o : ℕ) (b : BoxData) (ranges : List RangeData) (d : ℕ) → true_on t (to_high o b ranges d) ≡ le_z (end_of b (spot t o).origin d -ℤ pos 1) (range_at ranges d).high
high-is t o b ranges d = high-true (coordinate (spot t o).origin d) (coordinate b.offsets d) (coordinate b.sizes d) (range_at ranges d).high

-- with an object's shape at the place, the condition holds; with another one, it need not
unless-is : (p : ProblemData) (t : Tuple) (o s : ℕ) (c : CondTree) → IsShaped p t → IsPlace p o s → true_on t (unless_other p o s c) ≡ (not ((spot t o).place == s) || true_on t c)
unless-is p t o s c h i = by_test (has_several p o) refl
  where
    by_test : (b : Bool) → has_several p o ≡ b → true_on t (if b then at_least (pos 1) (conds (shape_is_not o s ∷ (c ∷ []))) else c) ≡ (not ((spot t o).place == s) || true_on t c)
    by_test true e = one-of t (shape_is_not o s ∷ (c ∷ [])) ∙ ap (λ (b : Bool). not ((spot t o).place == s) || b) (or-false (true_on t c))
    by_test false e =
        let f = h.each o i.object in
        ap (λ (b : Bool). b || true_on t c) (only-one (place_count (object_of p o)) (spot t o).place s f.first f.last i.first i.last (ltb-false 1 (place_count (object_of p o)) e))

pub unless-out : (p : ProblemData) (t : Tuple) (o s : ℕ) (c : CondTree) → IsShaped p t → IsPlace p o s → (spot t o).place ≡ s → IsTrueOn t (unless_other p o s c) → IsTrueOn t c
unless-out p t o s c h i e f =
    let v = not_from_true ((spot t o).place == s) (eq-eqb (spot t o).place s e) in
    ⊎_elim (λ q. absurd (false≢true (sym v ∙ q))) (λ q. q) (or_cases (not ((spot t o).place == s)) (true_on t c) (sym (unless-is p t o s c h i) ∙ f))

pub unless-in : (p : ProblemData) (t : Tuple) (o s : ℕ) (c : CondTree) → IsShaped p t → IsPlace p o s → ((spot t o).place ≡ s → IsTrueOn t c) → IsTrueOn t (unless_other p o s c)
unless-in p t o s c h i f =
    unless-is p t o s c h i
    ∙ ⊎_elim
    (λ x. or_right (not ((spot t o).place == s)) (true_on t c) (f (eqb-true (spot t o).place s x)))
    (λ x. or_left (not ((spot t o).place == s)) (true_on t c) (not_from_false ((spot t o).place == s) x))
    (cases_Bool ((spot t o).place == s))

at_most : (x y : ℤ) → le_z x y ≡ true → x ≤ℤ y
at_most x y h = grind (arith, ints)

is_at_most : (x y : ℤ) → x ≤ℤ y → le_z x y ≡ true
is_at_most x y h = grind (arith, ints)

between : (lo hi l e v : ℤ) → lo ≤ℤ l → (e -ℤ pos 1) ≤ℤ hi → l ≤ℤ v → v <ℤ e → (lo ≤ℤ v) × (v ≤ℤ hi)
between lo hi l e v a b c d = (omega (arith, ints), omega (arith, ints))

-- the box lies in the ranges, where the object has that shape
abbrev BoxWithin : ProblemData → List RangeData → Tuple → ℕ → ℕ → BoxData → Type 0
BoxWithin p ranges t o s b = (spot t o).place ≡ s → (c : List ℤ) → BoxHas p.dims b (spot t o).origin c → IsInRanges ranges c

box-out : (p : ProblemData) (ranges : List RangeData) (t : Tuple) (o s : ℕ) (b : BoxData) → IsShaped p t → IsPlace p o s → length ranges ≡ p.dims → All (IsTrueOn t) (within_of_box p ranges o s b) → BoxWithin p ranges t o s b
box-out p ranges t o s b h i n all e c f d l =
    let k : d < p.dims = subst (λ (m : ℕ). d < m) n l in
    let pair = all-range-out (λ d. All (IsTrueOn t) (within_in p ranges o s b d)) 0 p.dims (all-flat-out (IsTrueOn t) (within_in p ranges o s b) (range_with_len 0 p.dims) all) d (omega arith) (omega arith) in
    let first = unless-out p t o s (from_low o b ranges d) h i e (All-head (IsTrueOn t) (unless_other p o s (from_low o b ranges d)) (unless_other p o s (to_high o b ranges d) ∷ []) pair) in
    let second = unless-out p t o s (to_high o b ranges d) h i e (All-head (IsTrueOn t) (unless_other p o s (to_high o b ranges d)) [] (All-tail (IsTrueOn t) (unless_other p o s (from_low o b ranges d)) (unless_other p o s (to_high o b ranges d) ∷ []) pair)) in
    let g = f d k in
    between (range_at ranges d).low (range_at ranges d).high (low_of b (spot t o).origin d) (end_of b (spot t o).origin d) (coordinate c d)
    (at_most (range_at ranges d).low (low_of b (spot t o).origin d) (sym (low-is t o b ranges d) ∙ first)) (at_most (end_of b (spot t o).origin d -ℤ pos 1) (range_at ranges d).high (sym (high-is t o b ranges d) ∙ second)) g.from g.to

last-in : (l e : ℤ) → l <ℤ e → (l ≤ℤ (e -ℤ pos 1)) × ((e -ℤ pos 1) <ℤ e)
last-in l e h = (omega (arith, ints), omega (arith, ints))

box-in : (p : ProblemData) (ranges : List RangeData) (t : Tuple) (o s : ℕ) (b : BoxData) → IsShaped p t → IsPlace p o s → length ranges ≡ p.dims → IsBox p.dims b → BoxWithin p ranges t o s b → All (IsTrueOn t) (within_of_box p ranges o s b)
box-in p ranges t o s b h i n w f =
    all-flat-in (IsTrueOn t) (within_in p ranges o s b) (range_with_len 0 p.dims) (all-range-in (λ d. All (IsTrueOn t) (within_in p ranges o s b d)) 0 p.dims (λ d z l.
    let k : d < p.dims = omega arith in
    let m : d < length ranges = subst (λ (q : ℕ). d < q) (sym n) k in
    All-cons (IsTrueOn t) (unless_other p o s (from_low o b ranges d)) (unless_other p o s (to_high o b ranges d) ∷ []) (unless-in p t o s (from_low o b ranges d) h i (λ e.
    let c = cell-with p.dims b (spot t o).origin d (low_of b (spot t o).origin d) w k (record { from = omega (arith, ints); to = solid p.dims b (spot t o).origin d w k }) in
    low-is t o b ranges d ∙ is_at_most (range_at ranges d).low (low_of b (spot t o).origin d) (subst (λ (v : ℤ). (range_at ranges d).low ≤ℤ v) c.1.1 (f e c.0 c.1.0 d m).0)))
    (All-cons (IsTrueOn t) (unless_other p o s (to_high o b ranges d)) [] (unless-in p t o s (to_high o b ranges d) h i (λ e.
    let q = last-in (low_of b (spot t o).origin d) (end_of b (spot t o).origin d) (solid p.dims b (spot t o).origin d w k) in
    let c = cell-with p.dims b (spot t o).origin d (end_of b (spot t o).origin d -ℤ pos 1) w k (record { from = q.0; to = q.1 }) in
    high-is t o b ranges d ∙ is_at_most (end_of b (spot t o).origin d -ℤ pos 1) (range_at ranges d).high (subst (λ (v : ℤ). v ≤ℤ (range_at ranges d).high) c.1.1 (f e c.0 c.1.0 d m).1)))
    (All-nil (IsTrueOn t)))))

pub within-out : (p : ProblemData) (ranges : List RangeData) (t : Tuple) → IsShaped p t → length ranges ≡ p.dims → All (IsTrueOn t) (within_conditions p ranges) → IsWithin p ranges t
within-out p ranges t h n all o x c f =
    let i = place-of p t o h x in
    let first = all-range-out (λ o. All (IsTrueOn t) (within_of p ranges o)) 0 (length p.objects) (all-flat-out (IsTrueOn t) (within_of p ranges) (range_with_len 0 (length p.objects)) all) o (omega arith) (omega arith) in
    let second = all-range-out (λ s. All (IsTrueOn t) (within_at_place p ranges o s)) 1 (place_count (object_of p o)) (all-flat-out (IsTrueOn t) (within_at_place p ranges o) (places p o) first) (spot t o).place i.first (let e = i.last in omega arith) in
    box-out p ranges t o (spot t o).place _ h i n (all-flat-out (IsTrueOn t) (within_of_box p ranges o (spot t o).place) (boxes_at p o (spot t o).place) second f.0 (record { offsets = []; sizes = [] }) f.1) refl c f.2

pub within-in : (p : ProblemData) (ranges : List RangeData) (t : Tuple) → IsWellFormed p → IsShaped p t → length ranges ≡ p.dims → IsWithin p ranges t → All (IsTrueOn t) (within_conditions p ranges)
within-in p ranges t w h n f =
    all-flat-in (IsTrueOn t) (within_of p ranges) (range_with_len 0 (length p.objects)) (all-range-in (λ o. All (IsTrueOn t) (within_of p ranges o)) 0 (length p.objects) (λ o z l.
    let x : o < length p.objects = omega arith in
    all-flat-in (IsTrueOn t) (within_at_place p ranges o) (places p o) (all-range-in (λ s. All (IsTrueOn t) (within_at_place p ranges o s)) 1 (place_count (object_of p o)) (λ s m q.
    all-flat-in (IsTrueOn t) (within_of_box p ranges o s) (boxes_at p o s) (λ k d r.
    box-in p ranges t o s (get_or (boxes_at p o s) k d) h (record { object = x; first = m; last = omega arith }) n (boxes-good p o s w k d r)
    (λ e c a. f o x c (cell o s k d e r c a)))))))
  where
    cell : (o s k : ℕ) (d : BoxData) → (spot t o).place ≡ s → k < length (boxes_at p o s) → (c : List ℤ) → BoxHas p.dims (get_or (boxes_at p o s) k d) (spot t o).origin c → IsCellOf p t o c
    cell o s k d e l c a =
        let P : List BoxData → Type 0 = λ bs. (n : ℕ) × (n < length bs) × BoxHas p.dims (box_at bs n) (spot t o).origin c in
        subst P (sym (boxes-placed p t o s e)) (k, l, subst (λ (b : BoxData). BoxHas p.dims b (spot t o).origin c) (get_or_default (boxes_at p o s) k d (record { offsets = []; sizes = [] }) l) a)
