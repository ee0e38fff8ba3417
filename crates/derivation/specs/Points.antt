-- Covers of sets of points, as a sweep finds them.
use Rattle.std.specs.Prelude.{◌≡◌, ◌⊎◌, ◌≤ℤ◌, ◌+ℤ◌, ℕ, Bool, true, List, ℤ, pos, negsuc}
use Rattle.geo_base.specs.Boxes.{coordinate, Has}
use Rattle.derivation.specs.declared.side.Side.{Side}
use Rattle.derivation.specs.declared.side.Side.TheVariants.{Upto, From}
use Rattle.derivation.specs.Covers.{CoverTree, Leaf, Fork, IsCut}

-- the point lies on the side; it lies on the other side
abbrev pub OnNear : Side → List ℤ → Type 0
OnNear (Upto d v) q = coordinate q d ≤ℤ v
OnNear (From d v) q = v ≤ℤ coordinate q d

abbrev pub OnFar : Side → List ℤ → Type 0
OnFar (Upto d v) q = (v +ℤ pos 1) ≤ℤ coordinate q d
OnFar (From d v) q = coordinate q d ≤ℤ (v +ℤ negsuc 0)

-- The tree covers the set P of points, where the test says whether a condition is refuted on the box between two corners. A leaf's
-- condition is refuted on some box that has all points of its part; where its part has none, the leaf 1 may stand.
abbrev pub CoversPoints : ℕ → (ℕ → List ℤ → List ℤ → Bool) → CoverTree → (List ℤ → Type 0) → Type 0
CoversPoints k refuted (Leaf i) P = ((i ≡ 1) × ((q : List ℤ) → P q → ⊥)) ⊎ ((lo : List ℤ) × (hi : List ℤ) × (refuted i lo hi ≡ true) × ((q : List ℤ) → P q → Has k lo hi q))
CoversPoints k refuted (Fork side x y) P = IsCut k side × CoversPoints k refuted x (λ q. P q × OnNear side q) × CoversPoints k refuted y (λ q. P q × OnFar side q)
