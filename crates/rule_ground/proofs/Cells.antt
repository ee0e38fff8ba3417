-- Cells of two boxes, dimension by dimension.
use Rattle.std.proofs.Common.{◌≡◌, ◌<◌, ◌==◌, ℕ, ℤ, List, map, if◌then◌else◌, sym, subst, ◌∙◌, arith}
use Rattle.std.specs.Prelude.{◌≤ℤ◌, ◌<ℤ◌, ◌+ℤ◌, pos}
use Rattle.std.specs.Int.{int_max}
use Rattle.std.specs.List.{range_with_len}
use Rattle.std.proofs.Math.Logic.{⊎_elim}
use Rattle.std.proofs.lemmas.Bool.{cases_eq}
use Rattle.std.proofs.lemmas.Int.{ints, clamps}
use Rattle.std.proofs.lemmas.List.FromFn.{get_or-map-range_with_len}
use Rattle.geo_base.specs.Boxes.{coordinate}
use Rattle.problem_data.specs.Problem.{BoxData}
use Rattle.problem_data.specs.Cells.{IsIn, BoxHas}
use Rattle.problem_data.specs.WellFormed.{IsBox}

-- where the box begins in the dimension d, seen from the origin
abbrev pub low_of : BoxData → List ℤ → ℕ → ℤ
low_of b x d = coordinate x d +ℤ coordinate b.offsets d

-- the first number past it
abbrev pub end_of : BoxData → List ℤ → ℕ → ℤ
end_of b x d = (coordinate x d +ℤ coordinate b.offsets d) +ℤ coordinate b.sizes d

pub solid : (k : ℕ) (b : BoxData) (x : List ℤ) (d : ℕ) → IsBox k b → d < k → low_of b x d <ℤ end_of b x d
solid k b x d s h =
    let size : pos 0 <ℤ coordinate b.sizes d = s.solid d (pos 0) (subst (λ n. d < n) (sym s.sizes) h) in
    omega (arith, ints)

-- the point with these numbers in k dimensions
abbrev pub point : ℕ → (ℕ → ℤ) → List ℤ
point k f = map f (range_with_len 0 k)

pub point_at : (k : ℕ) (f : ℕ → ℤ) (d : ℕ) → d < k → coordinate (point k f) d ≡ f d
point_at k f d h = get_or-map-range_with_len f 0 k d d (pos 0) h (omega arith)

later : (a b p q : ℤ) → a <ℤ b → a <ℤ q → p <ℤ b → p <ℤ q → (a ≤ℤ int_max a p) × (int_max a p <ℤ b) × (p ≤ℤ int_max a p) × (int_max a p <ℤ q)
later a b p q h i j k = (omega (arith, ints, clamps), omega (arith, ints, clamps), omega (arith, ints, clamps), omega (arith, ints, clamps))

-- two boxes of which in each dimension neither ends before the other begins have a common cell
pub common-cell : (k : ℕ) (a b : BoxData) (x y : List ℤ) → IsBox k a → IsBox k b → ((d : ℕ) → d < k → (low_of a x d <ℤ end_of b y d) × (low_of b y d <ℤ end_of a x d))
    → (c : List ℤ) × (BoxHas k a x c × BoxHas k b y c)
common-cell k a b x y s r f = (
  point k (λ d. int_max (low_of a x d) (low_of b y d)),
  (
    (λ d h. subst (IsIn a x d) (sym (point_at k (λ e. int_max (low_of a x e) (low_of b y e)) d h)) (let m = both d h in record { from = m.0; to = m.1 })),
    (λ d h. subst (IsIn b y d) (sym (point_at k (λ e. int_max (low_of a x e) (low_of b y e)) d h)) (let m = both d h in record { from = m.2; to = m.3 })),
  ),
)
  where
    both : (d : ℕ) → d < k → (low_of a x d ≤ℤ int_max (low_of a x d) (low_of b y d)) × (int_max (low_of a x d) (low_of b y d) <ℤ end_of a x d) × (low_of b y d ≤ℤ int_max (low_of a x d) (low_of b y d)) × (int_max (low_of a x d) (low_of b y d) <ℤ end_of b y d)
    both d h = later (low_of a x d) (end_of a x d) (low_of b y d) (end_of b y d) (solid k a x d s h) (f d h).0 (f d h).1 (solid k b y d r h)

-- a box that ends before the other begins has no number of it
pub parted : (a b : BoxData) (x y : List ℤ) (d : ℕ) (v : ℤ) → end_of a x d ≤ℤ low_of b y d → IsIn a x d v → IsIn b y d v → ⊥
parted a b x y d v h i j = omega (arith, ints, i.from, i.to, j.from, j.to, h)

-- a number that the box has in one dimension is that of one of its cells
pub cell-with : (k : ℕ) (b : BoxData) (x : List ℤ) (d : ℕ) (v : ℤ) → IsBox k b → d < k → IsIn b x d v → (c : List ℤ) × (BoxHas k b x c × (coordinate c d ≡ v))
cell-with k b x d v s h i = (point k at, ((λ e l. subst (IsIn b x e) (sym (point_at k at e l)) (chosen e l)), point_at k at d h ∙ at_d))
  where
    at : ℕ → ℤ
    at e = if e == d then v else low_of b x e

    at_d : (if d == d then v else low_of b x d) ≡ v
    at_d = grind arith

    chosen : (e : ℕ) → e < k → IsIn b x e (if e == d then v else low_of b x e)
    chosen e l = ⊎_elim
        (λ same. let r : (if e == d then v else low_of b x e) ≡ v = grind (arith, same) in subst (IsIn b x e) (sym r) (subst (λ n. IsIn b x n v) (sym same) i))
        (λ other. let r : (if e == d then v else low_of b x e) ≡ low_of b x e = grind (arith, other) in
        subst (IsIn b x e) (sym r) (let m = solid k b x e s l in record { from = omega (arith, ints); to = m }))
        (cases_eq e d)
