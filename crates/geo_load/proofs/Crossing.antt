-- Cells of two boxes that agree in every dimension but one, made number by number.
use Rattle.std.proofs.Common.{◌≡◌, ◌≢◌, ◌<◌, ◌==◌, ℕ, ℤ, List, if◌then◌else◌, refl, sym, subst, ◌∙◌, arith, inl, inr}
use Rattle.std.specs.Prelude.{◌≤ℤ◌, ◌<ℤ◌, ◌-ℤ◌, pos}
use Rattle.std.specs.Int.{int_max}
use Rattle.std.proofs.lemmas.Bool.{cases_eq}
use Rattle.std.proofs.lemmas.Int.{ints}
use Rattle.geo_base.specs.Boxes.{coordinate}
use Rattle.problem_data.specs.Problem.{BoxData}
use Rattle.problem_data.specs.Cells.{IsIn, BoxHas}
use Rattle.problem_data.specs.WellFormed.{IsBox}
use Rattle.box_ends.proofs.Corners.{point, point_at, low, low_end, later_low}
use Rattle.geo_load.specs.Blocks.{BoxBlocks, low_in, end_in}

-- v in the dimension d, and m in the others
abbrev pub with : ℕ → ℤ → (ℕ → ℤ) → ℕ → ℤ
with d v m e = if e == d then v else m e

pub with_own : (d : ℕ) (v : ℤ) (m : ℕ → ℤ) (e : ℕ) → e ≡ d → with d v m e ≡ v
with_own d v m e same = grind (arith, same)

pub with_other : (d : ℕ) (v : ℤ) (m : ℕ → ℤ) (e : ℕ) → e ≢ d → with d v m e ≡ m e
with_other d v m e other = grind (arith, other)

-- the last number of a box in the dimension d
last_in : (k : ℕ) (b : BoxData) (x : List ℤ) (d : ℕ) → IsBox k b → d < k → IsIn b x d (end_in b x d -ℤ pos 1)
last_in k b x d s h =
    let size : pos 0 <ℤ coordinate b.sizes d = s.solid d (pos 0) (subst (λ n. d < n) (sym s.sizes) h) in
    record { from = omega (arith, ints); to = omega (arith, ints) }

module _ (k d : ℕ) (b : BoxData) (x : List ℤ) (v : ℤ) (m : ℕ → ℤ) (own : IsIn b x d v) (others : (e : ℕ) → e < k → e ≢ d → IsIn b x e (m e)) where
  -- the point is a cell of the box
  pub cell : BoxHas k b x (point k (with d v m))
  cell e l = subst (IsIn b x e) (sym (point_at k (with d v m) e l)) (elim (cases_eq e d) [
    | inl same ↦ subst (IsIn b x e) (sym (with_own d v m e same)) (subst (λ n. IsIn b x n v) (sym same) own)
    | inr other ↦ subst (IsIn b x e) (sym (with_other d v m e other)) (others e l other)
  ])

module _ (k d : ℕ) (a b : BoxData) (x y : List ℤ) (h : d < k) where
  -- the box a reaches beyond the low end of b, and they have a common number in each other dimension
  pub crossing : IsBox k a → IsBox k b → low_in b y d <ℤ end_in a x d → ((e : ℕ) → e < k → e ≢ d → (c : ℤ) × (IsIn a x e c × IsIn b y e c)) → BoxBlocks k d a x b y
  crossing s r reach f = (
    point k (with d far at),
    point k (with d near at),
    cell k d a x far at (last_in k a x d s h) (λ e l n. (later_low a b x y e (f e l n)).0),
    cell k d b y near at (low_end k b y d r h) (λ e l n. (later_low a b x y e (f e l n)).1),
    record {
      beyond =
          let p : coordinate (point k (with d far at)) d ≡ far = point_at k (with d far at) d h ∙ with_own d far at d refl in
          let q : coordinate (point k (with d near at)) d ≡ near = point_at k (with d near at) d h ∙ with_own d near at d refl in
          subst (λ z. coordinate (point k (with d near at)) d ≤ℤ z) (sym p) (subst (λ z. z ≤ℤ far) (sym q) (omega (arith, ints, reach)));
      agrees = λ e l n. point_at k (with d far at) e l ∙ with_other d far at e n ∙ sym (point_at k (with d near at) e l ∙ with_other d near at e n);
    },
  )
    where
      far : ℤ
      far = end_in a x d -ℤ pos 1

      near : ℤ
      near = low_in b y d

      at : ℕ → ℤ
      at e = int_max (low a x e) (low b y e)
