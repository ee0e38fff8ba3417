-- The conditions of `apart` are all true exactly where no cell belongs to two objects.
use Rattle.std.proofs.Common.{◌≡◌, ◌<◌, ◌≤◌, ◌+◌, ◌-◌, ◌==◌, ℕ, ℤ, Bool, true, false, not, ◌||◌, List, [], ◌∷◌, ◌++◌, map, length, get_or, refl, sym, subst, ◌∙◌, ap, arith}
use Rattle.std.specs.Prelude.{◌≤ℤ◌, ◌<ℤ◌, All}
use Rattle.std.specs.List.{list_any, flat_map, range_with_len}
use Rattle.std.proofs.Math.Logic.{⊎_elim}
use Rattle.std.proofs.lemmas.Int.{ints}
use Rattle.std.proofs.lemmas.Bool.{cases_Bool, cases_order, eq-eqb, eqb-true, false≢true, or_parts, or_cases, or_from, or_left, or_right, not_from_true, not_from_false, true_from_ne_false}
use Rattle.std.proofs.lemmas.List.{get_or_default, get_or-map, length-map}
use Rattle.std.proofs.lemmas.List.Elements.{All-map}
use lib.Signed.{le_z}
use Rattle.geo_base.specs.Boxes.{coordinate}
use Rattle.geo_base.specs.Tuple.{Tuple, spot}
use Rattle.problem_data.specs.Problem.{BoxData, ProblemData}
use Rattle.problem_data.specs.Tuple.{object_of}
use Rattle.problem_data.specs.Cells.{BoxHas, box_at, IsCellOf, NoCommonCell, IsApart, IsShaped}
use Rattle.problem_data.specs.Places.{place_count}
use Rattle.problem_data.specs.WellFormed.{IsBox, IsWellFormed}
use Rattle.linear_conditions.specs.CondTree.{CondTree, true_on}
use Rattle.rule_ground.specs.Shapes.{places, IsPlace, other_shape}
use Rattle.rule_values.specs.Shapes.{boxes_at}
use Rattle.rule_values.proofs.Boxes.{boxes-good}
use Rattle.rule_ground.specs.Apart.{parted_in, apart_condition, apart_from_box, apart_at_places, apart_at_place, apart_of, apart_behind, apart_conditions}
use Rattle.rule_ground.proofs.Cells.{low_of, end_of, common-cell, parted}
use Rattle.rule_ground.proofs.Placing.{boxes-placed, place-of, other-true}
use Rattle.rule_ground.proofs.Truths.{one-of, any-append, any-flat, ends_before, begins_after, all-flat-out, all-flat-in, all-range-out, all-range-in, any-out, none-any}

abbrev pub IsTrueOn : Tuple → CondTree → Type 0
IsTrueOn t c = true_on t c ≡ true

-- the boxes are parted in the dimension d
abbrev parts : BoxData → BoxData → List ℤ → List ℤ → ℕ → Bool
parts a b x y d = le_z (end_of a x d) (low_of b y d) || (le_z (end_of b y d) (low_of a x d) || false)

parts-is : (t : Tuple) (i : ℕ) (a : BoxData) (j : ℕ) (b : BoxData) (d : ℕ) → list_any (true_on t) (parted_in i a j b d) ≡ parts a b (spot t i).origin (spot t j).origin d
parts-is t i a j b d =
    let x = coordinate (spot t i).origin d in
    let y = coordinate (spot t j).origin d in
    λ k. ends_before x y (coordinate a.offsets d) (coordinate a.sizes d) (coordinate b.offsets d) k || (begins_after x y (coordinate a.offsets d) (coordinate b.offsets d) (coordinate b.sizes d) k || false)

any-same : (f g : ℕ → Bool) (xs : List ℕ) → ((d : ℕ) → f d ≡ g d) → list_any f xs ≡ list_any g xs
any-same f g [] e = refl
any-same f g (x ∷ xs) e = λ k. e x k || any-same f g xs e k

-- a condition of two boxes, taken apart
condition-is : (p : ProblemData) (t : Tuple) (i s j u : ℕ) (a b : BoxData) → IsShaped p t → IsPlace p i s → IsPlace p j u
    → true_on t (apart_condition p i s j u a b) ≡ ((not ((spot t i).place == s) || not ((spot t j).place == u)) || list_any (parts a b (spot t i).origin (spot t j).origin) (range_with_len 0 p.dims))
condition-is p t i s j u a b h m n =
    one-of t (other_shape p i s ++ other_shape p j u ++ flat_map (parted_in i a j b) (range_with_len 0 p.dims))
    ∙ any-append (true_on t) (other_shape p i s ++ other_shape p j u) (flat_map (parted_in i a j b) (range_with_len 0 p.dims))
    ∙ ap (λ (c : Bool). c || list_any (true_on t) (flat_map (parted_in i a j b) (range_with_len 0 p.dims))) (any-append (true_on t) (other_shape p i s) (other_shape p j u))
    ∙ (λ k. (other-true p t i s h m k || other-true p t j u h n k)
    || (any-flat (true_on t) (parted_in i a j b) (range_with_len 0 p.dims) ∙ any-same (λ d. list_any (true_on t) (parted_in i a j b d)) (parts a b (spot t i).origin (spot t j).origin) (range_with_len 0 p.dims) (parts-is t i a j b)) k)

at_most : (x y : ℤ) → le_z x y ≡ true → x ≤ℤ y
at_most x y h = grind (arith, ints)

above : (x y : ℤ) → le_z x y ≡ false → y <ℤ x
above x y h = grind (arith, ints)

-- parted boxes have no common cell
parts-out : (k : ℕ) (a b : BoxData) (x y : List ℤ) → list_any (parts a b x y) (range_with_len 0 k) ≡ true → (c : List ℤ) → BoxHas k a x c → BoxHas k b y c → ⊥
parts-out k a b x y h c f g = false≢true (sym (none-any (parts a b x y) (range_with_len 0 k) (all-range-in (λ d. parts a b x y d ≡ false) 0 k none)) ∙ h)
  where
    refuted : (d : ℕ) → d < k → parts a b x y d ≡ true → ⊥
    refuted d l e = ⊎_elim
        (λ q. parted a b x y d (coordinate c d) (at_most (end_of a x d) (low_of b y d) q) (f d l) (g d l))
        (λ q. ⊎_elim (λ r. parted b a y x d (coordinate c d) (at_most (end_of b y d) (low_of a x d) r) (g d l) (f d l)) (λ r. false≢true r) (or_cases (le_z (end_of b y d) (low_of a x d)) false q))
        (or_cases (le_z (end_of a x d) (low_of b y d)) (le_z (end_of b y d) (low_of a x d) || false) e)

    none : (d : ℕ) → 0 ≤ d → d < 0 + k → parts a b x y d ≡ false
    none d z l = ⊎_elim (λ e. absurd (refuted d (omega arith) e)) (λ e. e) (cases_Bool (parts a b x y d))

-- boxes without a common cell are parted
parts-in : (k : ℕ) (a b : BoxData) (x y : List ℤ) → IsBox k a → IsBox k b → ((c : List ℤ) → BoxHas k a x c → BoxHas k b y c → ⊥) → list_any (parts a b x y) (range_with_len 0 k) ≡ true
parts-in k a b x y s r f = true_from_ne_false (list_any (parts a b x y) (range_with_len 0 k)) (λ e.
    let m = common-cell k a b x y s r (λ d l.
    let h = all-range-out (λ d. parts a b x y d ≡ false) 0 k (any-out (parts a b x y) (range_with_len 0 k) e) d (omega arith) (omega arith) in
    let q = or_parts (le_z (end_of a x d) (low_of b y d)) (le_z (end_of b y d) (low_of a x d) || false) h in
    let v = or_parts (le_z (end_of b y d) (low_of a x d)) false q.1 in
    (above (end_of b y d) (low_of a x d) v.0, above (end_of a x d) (low_of b y d) q.0)) in
    f m.0 m.1.0 m.1.1)

-- the boxes have no common cell, where the objects have these shapes
abbrev Separates : ProblemData → Tuple → ℕ → ℕ → ℕ → ℕ → BoxData → BoxData → Type 0
Separates p t i s j u a b = (spot t i).place ≡ s → (spot t j).place ≡ u → (c : List ℤ) → BoxHas p.dims a (spot t i).origin c → BoxHas p.dims b (spot t j).origin c → ⊥

not_same : (a s : ℕ) → (a == s) ≡ false → not (a == s) ≡ true
not_same a s e = not_from_false (a == s) e

pub condition-out : (p : ProblemData) (t : Tuple) (i s j u : ℕ) (a b : BoxData) → IsShaped p t → IsPlace p i s → IsPlace p j u → IsTrueOn t (apart_condition p i s j u a b) → Separates p t i s j u a b
condition-out p t i s j u a b h m n e x y =
    let f = sym (condition-is p t i s j u a b h m n) ∙ e in
    let v = not_from_true ((spot t i).place == s) (eq-eqb (spot t i).place s x) in
    let z = not_from_true ((spot t j).place == u) (eq-eqb (spot t j).place u y) in
    parts-out p.dims a b (spot t i).origin (spot t j).origin
    (⊎_elim (λ q. absurd (false≢true (sym (or_from (not ((spot t i).place == s)) (not ((spot t j).place == u)) v z) ∙ q))) (λ q. q)
    (or_cases (not ((spot t i).place == s) || not ((spot t j).place == u)) (list_any (parts a b (spot t i).origin (spot t j).origin) (range_with_len 0 p.dims)) f))

pub condition-in : (p : ProblemData) (t : Tuple) (i s j u : ℕ) (a b : BoxData) → IsShaped p t → IsPlace p i s → IsPlace p j u → IsBox p.dims a → IsBox p.dims b → Separates p t i s j u a b → IsTrueOn t (apart_condition p i s j u a b)
condition-in p t i s j u a b h m n k l f =
    let A = not ((spot t i).place == s) in
    let B = not ((spot t j).place == u) in
    let C = list_any (parts a b (spot t i).origin (spot t j).origin) (range_with_len 0 p.dims) in
    condition-is p t i s j u a b h m n
    ∙ ⊎_elim
    (λ x. ⊎_elim
    (λ y. or_right (A || B) C (parts-in p.dims a b (spot t i).origin (spot t j).origin k l (f (eqb-true (spot t i).place s x) (eqb-true (spot t j).place u y))))
    (λ y. or_left (A || B) C (or_right A B (not_same (spot t j).place u y)))
    (cases_Bool ((spot t j).place == u)))
    (λ x. or_left (A || B) C (or_left A B (not_same (spot t i).place s x)))
    (cases_Bool ((spot t i).place == s))

no_box : BoxData
no_box = record { offsets = []; sizes = [] }

-- ---- the whole list, taken apart

-- each condition of two objects is true
abbrev AllOf : ProblemData → Tuple → ℕ → ℕ → Type 0
AllOf p t i j = All (IsTrueOn t) (apart_of p i j)

-- and so is the condition of two of their boxes
pub of-out : (p : ProblemData) (t : Tuple) (i s j u : ℕ) → IsPlace p i s → IsPlace p j u → All (IsTrueOn t) (apart_of p i j)
    → (m n : ℕ) → m < length (boxes_at p i s) → n < length (boxes_at p j u) → IsTrueOn t (apart_condition p i s j u (box_at (boxes_at p i s) m) (box_at (boxes_at p j u) n))
of-out p t i s j u x y h m n l k =
    let first = all-range-out (λ s. All (IsTrueOn t) (apart_at_place p i j s)) 1 (place_count (object_of p i)) (all-flat-out (IsTrueOn t) (apart_at_place p i j) (places p i) h) s x.first (let e = x.last in omega arith) in
    let second = all-range-out (λ u. All (IsTrueOn t) (apart_at_places p i s j u)) 1 (place_count (object_of p j)) (all-flat-out (IsTrueOn t) (apart_at_places p i s j) (places p j) first) u y.first (let e = y.last in omega arith) in
    let boxes = all-flat-out (IsTrueOn t) (apart_from_box p i s j u) (boxes_at p i s) second m (record { offsets = []; sizes = [] }) l in
    mapped (apart_condition p i s j u (box_at (boxes_at p i s) m)) (boxes_at p j u) n k boxes
  where
    mapped : (g : BoxData → CondTree) (bs : List BoxData) (n : ℕ) → n < length bs → All (IsTrueOn t) (map g bs) → IsTrueOn t (g (box_at bs n))
    mapped g bs n k all =
        subst (IsTrueOn t) (get_or-map g bs n (record { offsets = []; sizes = [] }) (g (record { offsets = []; sizes = [] })) k) (all n (g (record { offsets = []; sizes = [] })) (subst (λ (c : ℕ). n < c) (sym (length-map bs g)) k))

pub of-in : (p : ProblemData) (t : Tuple) (i j : ℕ) → i < length p.objects → j < length p.objects
    → ((s u : ℕ) → IsPlace p i s → IsPlace p j u → All (λ a. All (λ b. IsTrueOn t (apart_condition p i s j u a b)) (boxes_at p j u)) (boxes_at p i s)) → All (IsTrueOn t) (apart_of p i j)
of-in p t i j x y f =
    all-flat-in (IsTrueOn t) (apart_at_place p i j) (places p i) (all-range-in (λ s. All (IsTrueOn t) (apart_at_place p i j s)) 1 (place_count (object_of p i)) (λ s l m.
    all-flat-in (IsTrueOn t) (apart_at_places p i s j) (places p j) (all-range-in (λ u. All (IsTrueOn t) (apart_at_places p i s j u)) 1 (place_count (object_of p j)) (λ u k n.
    all-flat-in (IsTrueOn t) (apart_from_box p i s j u) (boxes_at p i s) (λ q d r.
    All-map (IsTrueOn t) (apart_condition p i s j u (get_or (boxes_at p i s) q d)) (boxes_at p j u)
    (f s u (record { object = x; first = l; last = omega arith }) (record { object = y; first = k; last = omega arith }) q d r))))))

-- two objects whose conditions are true share no cell
pub pair-out : (p : ProblemData) (t : Tuple) (i j : ℕ) → IsShaped p t → i < length p.objects → j < length p.objects → All (IsTrueOn t) (apart_of p i j) → NoCommonCell p t i j
pair-out p t i j h x y all c f g =
    condition-out p t i (spot t i).place j (spot t j).place _ _ h (place-of p t i h x) (place-of p t j h y)
    (of-out p t i (spot t i).place j (spot t j).place (place-of p t i h x) (place-of p t j h y) all f.0 g.0 f.1 g.1) refl refl c f.2 g.2

pub pair-in : (p : ProblemData) (t : Tuple) (i j : ℕ) → IsWellFormed p → IsShaped p t → i < length p.objects → j < length p.objects → NoCommonCell p t i j → All (IsTrueOn t) (apart_of p i j)
pair-in p t i j w h x y f = of-in p t i j x y (λ s u m n k d l k' d' l'.
    condition-in p t i s j u (get_or (boxes_at p i s) k d) (get_or (boxes_at p j u) k' d') h m n
    (boxes-good p i s w k d l) (boxes-good p j u w k' d' l')
    (λ e e' c a b. f c (cell i s k d e l c a) (cell j u k' d' e' l' c b)))
  where
    cell : (o s k : ℕ) (d : BoxData) → (spot t o).place ≡ s → k < length (boxes_at p o s) → (c : List ℤ) → BoxHas p.dims (get_or (boxes_at p o s) k d) (spot t o).origin c → IsCellOf p t o c
    cell o s k d e l c a =
        let P : List BoxData → Type 0 = λ bs. (n : ℕ) × (n < length bs) × BoxHas p.dims (box_at bs n) (spot t o).origin c in
        subst P (sym (boxes-placed p t o s e)) (k, l, subst (λ (b : BoxData). BoxHas p.dims b (spot t o).origin c) (get_or_default (boxes_at p o s) k d (record { offsets = []; sizes = [] }) l) a)

pub apart-out : (p : ProblemData) (t : Tuple) → IsShaped p t → All (IsTrueOn t) (apart_conditions p) → IsApart p t
apart-out p t h all o u x y ne c a b = ⊎_elim
    (λ e. ne e)
    (⊎_elim (λ l. pair-out p t o u h x y (pair o u x y l) c a b) (λ l. pair-out p t u o h y x (pair u o y x l) c b a))
    (cases_order o u)
  where
    pair : (i j : ℕ) → i < length p.objects → j < length p.objects → i < j → All (IsTrueOn t) (apart_of p i j)
    pair i j x y l =
        let first = all-range-out (λ i. All (IsTrueOn t) (apart_behind p i)) 0 (length p.objects) (all-flat-out (IsTrueOn t) (apart_behind p) (range_with_len 0 (length p.objects)) all) i (omega arith) (omega arith) in
        all-range-out (λ j. All (IsTrueOn t) (apart_of p i j)) (i + 1) (length p.objects - (i + 1)) (all-flat-out (IsTrueOn t) (apart_of p i) (range_with_len (i + 1) (length p.objects - (i + 1))) first) j (omega arith) (omega arith)

pub apart-in : (p : ProblemData) (t : Tuple) → IsWellFormed p → IsShaped p t → IsApart p t → All (IsTrueOn t) (apart_conditions p)
apart-in p t w h f =
    all-flat-in (IsTrueOn t) (apart_behind p) (range_with_len 0 (length p.objects)) (all-range-in (λ i. All (IsTrueOn t) (apart_behind p i)) 0 (length p.objects) (λ i z l.
    all-flat-in (IsTrueOn t) (apart_of p i) (range_with_len (i + 1) (length p.objects - (i + 1))) (all-range-in (λ j. All (IsTrueOn t) (apart_of p i j)) (i + 1) (length p.objects - (i + 1)) (λ j m n.
    let x : i < length p.objects = omega arith in
    let y : j < length p.objects = omega arith in
    pair-in p t i j w h x y (f i j x y (λ e. absurd (omega arith)))))))
