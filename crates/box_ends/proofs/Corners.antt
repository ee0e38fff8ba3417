-- Cells of boxes, made number by number, and facts that follow a test.
use Rattle.std.proofs.Common.{◌≡◌, ◌<◌, ◌==◌, ℕ, ℤ, Bool, true, false, List, [], map, length, get_or, if◌then◌else◌, refl, sym, subst, ◌∙◌, arith}
use Rattle.std.specs.Prelude.{◌≤ℤ◌, ◌<ℤ◌, ◌+ℤ◌, pos}
use Rattle.std.specs.Bool.{OnTrue, OnFalse}
use Rattle.std.specs.Int.{int_max}
use Rattle.std.specs.List.{range_with_len}
use Rattle.std.proofs.Math.Logic.{⊎_elim}
use Rattle.std.proofs.lemmas.Bool.{cases_eq}
use Rattle.std.proofs.lemmas.Int.{ints, clamps}
use Rattle.std.proofs.lemmas.List.{get_or_default}
use Rattle.std.proofs.lemmas.List.FromFn.{get_or-map-range_with_len}
use Rattle.geo_base.specs.Boxes.{coordinate}
use Rattle.problem_data.specs.Problem.{BoxData}
use Rattle.problem_data.specs.Cells.{IsIn, BoxHas, box_at}
use Rattle.problem_data.specs.WellFormed.{IsBox}

pub on_false : (b : Bool) (P : Type 0) → (b ≡ false → P) → OnFalse b P
on_false true P f = tt
on_false false P f = f refl

pub on_true : (b : Bool) (P : Type 0) → (b ≡ true → P) → OnTrue b P
on_true true P f = f refl
on_true false P f = tt

pub on_true_map : (b : Bool) (P Q : Type 0) → OnTrue b P → (P → Q) → OnTrue b Q
on_true_map true P Q h f = f h
on_true_map false P Q h f = tt

pub on_false_map : (b : Bool) (P Q : Type 0) → OnFalse b P → (P → Q) → OnFalse b Q
on_false_map true P Q h f = tt
on_false_map false P Q h f = f h

-- the later low end is a common number
pub common : (a b p q : ℤ) → a <ℤ b → a <ℤ q → p <ℤ b → p <ℤ q → (c : ℤ) × ((a ≤ℤ c) × (c <ℤ b) × (p ≤ℤ c) × (c <ℤ q))
common a b p q h i j k = (int_max a p, (omega (arith, ints, clamps), omega (arith, ints, clamps), omega (arith, ints, clamps), omega (arith, ints, clamps)))

-- the point with these numbers in k dimensions
abbrev pub point : ℕ → (ℕ → ℤ) → List ℤ
point k f = map f (range_with_len 0 k)

pub point_at : (k : ℕ) (f : ℕ → ℤ) (d : ℕ) → d < k → coordinate (point k f) d ≡ f d
point_at k f d h = get_or-map-range_with_len f 0 k d d (pos 0) h (omega arith)

-- where a box begins in the dimension d, seen from an origin
abbrev pub low : BoxData → List ℤ → ℕ → ℤ
low b o d = coordinate o d +ℤ coordinate b.offsets d

-- two boxes with a common number in a dimension have the later of their low ends in common
pub later_low : (a b : BoxData) (x y : List ℤ) (d : ℕ) → (c : ℤ) × (IsIn a x d c × IsIn b y d c) → IsIn a x d (int_max (low a x d) (low b y d)) × IsIn b y d (int_max (low a x d) (low b y d))
later_low a b x y d (c, (i, j)) =
    (record { from = omega (arith, ints, clamps); to = omega (arith, ints, clamps) }, record { from = omega (arith, ints, clamps); to = omega (arith, ints, clamps) })

-- two boxes with a common number in each dimension have a common cell
pub common_cell : (k : ℕ) (a b : BoxData) (x y : List ℤ) → ((d : ℕ) → d < k → (c : ℤ) × (IsIn a x d c × IsIn b y d c)) → (c : List ℤ) × (BoxHas k a x c × BoxHas k b y c)
common_cell k a b x y f = (
  point k at,
  (
    (λ d h. subst (IsIn a x d) (sym (point_at k at d h)) (later_low a b x y d (f d h)).0),
    (λ d h. subst (IsIn b y d) (sym (point_at k at d h)) (later_low a b x y d (f d h)).1),
  ),
)
  where
    at : ℕ → ℤ
    at d = int_max (low a x d) (low b y d)

-- the box has its low end in each dimension
pub low_end : (k : ℕ) (b : BoxData) (x : List ℤ) (d : ℕ) → IsBox k b → d < k → IsIn b x d (coordinate x d +ℤ coordinate b.offsets d)
low_end k b x d s h =
    let size : pos 0 <ℤ coordinate b.sizes d = s.solid d (pos 0) (subst (λ n. d < n) (sym s.sizes) h) in
    record { from = omega (arith, ints); to = omega (arith, ints) }

-- a number that the box has in one dimension is that of one of its cells
pub cell_with : (k : ℕ) (b : BoxData) (x : List ℤ) (d : ℕ) (v : ℤ) → IsBox k b → d < k → IsIn b x d v → (c : List ℤ) × (BoxHas k b x c × (coordinate c d ≡ v))
cell_with k b x d v s h i = (point k at, ((λ e l. subst (IsIn b x e) (sym (point_at k at e l)) (chosen e l)), point_at k at d h ∙ at_d))
  where
    at : ℕ → ℤ
    at e = if e == d then v else (coordinate x e +ℤ coordinate b.offsets e)

    at_d : (if d == d then v else (coordinate x d +ℤ coordinate b.offsets d)) ≡ v
    at_d = grind arith

    chosen : (e : ℕ) → e < k → IsIn b x e (if e == d then v else (coordinate x e +ℤ coordinate b.offsets e))
    chosen e l = ⊎_elim
        (λ same. let r : (if e == d then v else (coordinate x e +ℤ coordinate b.offsets e)) ≡ v = grind (arith, same) in subst (IsIn b x e) (sym r) (subst (λ n. IsIn b x n v) (sym same) i))
        (λ other. let r : (if e == d then v else (coordinate x e +ℤ coordinate b.offsets e)) ≡ (coordinate x e +ℤ coordinate b.offsets e) = grind (arith, other) in subst (IsIn b x e) (sym r) (low_end k b x e s l))
        (cases_eq e d)

-- an element of a list of boxes by its index
pub box_there : (xs : List BoxData) (i : ℕ) (x : BoxData) → x ≡ get_or xs i x → i < length xs → x ≡ box_at xs i
box_there xs i x e h = e ∙ get_or_default xs i x (record { offsets = []; sizes = [] }) h
