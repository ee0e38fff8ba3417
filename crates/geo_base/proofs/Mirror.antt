-- A box in the way's count: whatever its direction, the way goes up from its start corner to its end corner.
use Rattle.std.proofs.Common.{◌≡◌, ℕ, ◌+◌, ◌-◌, ◌<◌, ℤ, ◌≤ℤ◌, Bool, true, false, List, subst, arith, nat_lt, if◌then◌else◌}
use Rattle.std.proofs.lemmas.Int.{ints}
use Rattle.std.proofs.lemmas.Bool.Decides.{nat_tests}
use Rattle.geo_base.specs.Boxes.{coordinate, Has}
use Rattle.geo_base.specs.Ways.{dimension, toward, key, start, end}

pub dimension_in : (K lead j : ℕ) → lead < K → j < K → dimension K lead j < K
dimension_in K lead j l h = grind (arith, nat_tests)

-- the place of significance of a dimension
abbrev pub place : ℕ → ℕ → ℕ → ℕ
place K lead d = if nat_lt d lead then d + K - lead else d - lead

pub place_in : (K lead d : ℕ) → lead < K → d < K → place K lead d < K
place_in K lead d l h = grind (arith, nat_tests)

pub dimension-place : (K lead d : ℕ) → lead < K → d < K → dimension K lead (place K lead d) ≡ d
dimension-place K lead d l h = grind (arith, nat_tests)

pub keys_from_has : (K lead : ℕ) (up : Bool) (lo hi q : List ℤ) → lead < K → Has K lo hi q → (j : ℕ) → j < K → (key K lead up (start up lo hi) j ≤ℤ key K lead up q j) × (key K lead up q j ≤ℤ key K lead up (end up lo hi) j)
keys_from_has K lead true lo hi q l has j h = has _ (dimension_in K lead j l h)
keys_from_has K lead false lo hi q l has j h =
    let w = has _ (dimension_in K lead j l h) in (omega (arith, ints, w.1), omega (arith, ints, w.0))

has_at : (up : Bool) (lo hi q : List ℤ) (d : ℕ) → (toward up (coordinate (start up lo hi) d) ≤ℤ toward up (coordinate q d)) × (toward up (coordinate q d) ≤ℤ toward up (coordinate (end up lo hi) d)) → (coordinate lo d ≤ℤ coordinate q d) × (coordinate q d ≤ℤ coordinate hi d)
has_at true lo hi q d w = w
has_at false lo hi q d w = (omega (arith, ints, w.1), omega (arith, ints, w.0))

pub has_from_keys : (K lead : ℕ) (up : Bool) (lo hi q : List ℤ) → lead < K → ((j : ℕ) → j < K → (key K lead up (start up lo hi) j ≤ℤ key K lead up q j) × (key K lead up q j ≤ℤ key K lead up (end up lo hi) j)) → Has K lo hi q
has_from_keys K lead up lo hi q l keys d h =
    subst (λ (e : ℕ). (coordinate lo e ≤ℤ coordinate q e) × (coordinate q e ≤ℤ coordinate hi e)) (dimension-place K lead d l h)
    (has_at up lo hi q (dimension K lead (place K lead d)) (keys (place K lead d) (place_in K lead d l h)))
